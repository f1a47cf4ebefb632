-- Answers of the storage, without their origins.
use Rattle.std.specs.Prelude.{List, map}
use Rattle.rv_step.specs.declared.answer.StorageAnswer.{StorageAnswer}
use Rattle.rv_step.specs.Moment.{Reply}

abbrev pub reply_of : StorageAnswer → Reply
reply_of answer = (answer.key, answer.value)

abbrev pub replies_of : List StorageAnswer → List Reply
replies_of answers = map reply_of answers
