-- Trees hold one state of a session.
use Rattle.std.proofs.Common.{◌≡◌, ℕ, Bool, true, false, List, [], ◌∷◌, map, Option, Some, None, refl, sym, ap, ◌∙◌, arith}
use Rattle.std.specs.FinMap.{entries, same_entries_map}
use Rattle.rv_ledger.specs.Rules.{rules_number}
use Rattle.sqlite_trees.specs.Tree.{Trees}
use Rattle.rv_ledger.specs.declared.rules.Rules.{Rules}
use Rattle.rv_ledger.specs.declared.rules.Rules.TheVariants as rules
use Rattle.session_tree.specs.Entries.{ByteMap, entry_row, rows_of}
use Rattle.session_file.specs.Kept.{HoldsIn, Kept, answer_row, flag_number, number_or_null, rows_if_any, session_row}
use Rattle.session_file.specs.declared.rows.SessionRow.{SessionRow}

one_of : (e f : List ℕ × List ℕ) → entry_row e ≡ entry_row f → e ≡ f
one_of e f is =
    let keys : e.0 ≡ f.0 = cc in
    let values : e.1 ≡ f.1 = cc in
    λ i. (keys i, values i)

pairs_once : (es fs : List (List ℕ × List ℕ)) → map entry_row es ≡ map entry_row fs → es ≡ fs
pairs_once [] [] is = refl
pairs_once [] (f ∷ fs) is = cc
pairs_once (e ∷ es) [] is = cc
pairs_once (e ∷ es) (f ∷ fs) is =
    let heads : entry_row e ≡ entry_row f = cc in
    let tails : map entry_row es ≡ map entry_row fs = cc in
    let first = one_of e f heads in
    let rest = pairs_once es fs tails in cc

-- rows are those of one map
pub rows_once : (s t : ByteMap) → rows_of s ≡ rows_of t → s ≡ t
rows_once s t is = same_entries_map s t (pairs_once (entries s) (entries t) is)

rules_once : (r s : Rules) → rules_number r ≡ rules_number s → r ≡ s
rules_once rules.One rules.One is = refl
rules_once rules.Two rules.Two is = refl
rules_once rules.Three rules.Three is = refl
rules_once r s is = absurd (omega arith)

flag_once : (b c : Bool) → flag_number b ≡ flag_number c → b ≡ c
flag_once true true is = refl
flag_once false false is = refl
flag_once b c is = absurd (omega arith)

number_once : (m n : Option ℕ) → number_or_null m ≡ number_or_null n → m ≡ n
number_once None None is = refl
number_once (Some m) (Some n) is = cc
number_once m n is = cc

row_once : (s t : SessionRow) → session_row s ≡ session_row t → s ≡ t
row_once s t is =
    let limit : s.frame_limit ≡ t.frame_limit = cc in
    let gas : number_or_null s.frame_gas ≡ number_or_null t.frame_gas = cc in
    let brief : flag_number s.is_brief ≡ flag_number t.is_brief = cc in
    let rules : rules_number s.rules ≡ rules_number t.rules = cc in
    let height : s.height ≡ t.height = cc in
    let digest : s.digest ≡ t.digest = cc in
    let the_gas = number_once s.frame_gas t.frame_gas gas in
    let the_brief = flag_once s.is_brief t.is_brief brief in
    let the_rules = rules_once s.rules t.rules rules in
    λ i. record { frame_limit = limit i; frame_gas = the_gas i; is_brief = the_brief i; rules = the_rules i; height = height i; digest = digest i }

session_once : (o p : Option SessionRow) → rows_if_any session_row o ≡ rows_if_any session_row p → o ≡ p
session_once None None is = refl
session_once None (Some t) is = cc
session_once (Some s) None is = cc
session_once (Some s) (Some t) is =
    let rows : session_row s ≡ session_row t = cc in
    ap Some (row_once s t rows)

answer_once : (o p : Option (List ℕ × List ℕ)) → rows_if_any answer_row o ≡ rows_if_any answer_row p → o ≡ p
answer_once None None is = refl
answer_once None (Some b) is = cc
answer_once (Some a) None is = cc
answer_once (Some a) (Some b) is =
    let lines : a.0 ≡ b.0 = cc in
    let bytes : a.1 ≡ b.1 = cc in
    ap Some (λ i. (lines i, bytes i))

-- trees hold one state of a session
pub holds_once : (db : Trees) (j k : Kept) → HoldsIn db j → HoldsIn db k → j ≡ k
holds_once db j k a b =
    let storage = rows_once j.storage k.storage (sym a.storage ∙ b.storage) in
    let programs = rows_once j.programs k.programs (sym a.programs ∙ b.programs) in
    let session = session_once j.session k.session (sym a.session ∙ b.session) in
    let answer = answer_once j.answer k.answer (sym a.answer ∙ b.answer) in
    λ i. record { storage = storage i; programs = programs i; session = session i; answer = answer i }
