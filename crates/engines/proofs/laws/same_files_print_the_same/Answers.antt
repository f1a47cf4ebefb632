use Rattle.engines.proofs.SameFiles.{one_result, result_same}
use Rattle.engines.proofs.laws.same_files_print_the_same.Goals as goal

pub returns-clause-result : goal.returns-clause-result
returns-clause-result c first second file same = result_same first second file same

pub returns-clause-printed : goal.returns-clause-printed
returns-clause-printed c first second typed lines one other file asked wanted same known is also h k =
    one_result first second typed lines one other file asked wanted same known is also h k
