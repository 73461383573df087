-- What the contract of each call gives where it answers Ok: the claim, over its slices. Assumes nothing.
use Rattle.std.specs.Prelude.{List, ℕ, ℤ, Float, Result, Ok, Err, OnOk}
use Rattle.refusal.specs.declared.Refusal.{Refusal}
use Rattle.refusal.specs.Refusal.{number_of}
use Rattle.fused.specs.Answer.{input, lent, Fused}
use Rattle.fused.specs.declared.mode.Mode.{Mode}
use Rattle.table_sums.specs.Table.{Apportioned}
use Rattle.demand.specs.Demand.{table, fused, board_of, RoadRight}
use Rattle.demand.proofs.Theorem.{demand}

pub table_right : {n r : ℕ} {best : List ℤ} {pool : List ℕ} {num den num' den' : List Float} (answer : Result Unit Refusal)
    → Apportioned n r best pool num den (number_of answer) num' den' → OnOk answer ((sheet leave : List ℤ) → RoadRight (board_of n r pool sheet leave) (table best) num' den')
table_right (Ok v) c = λ sheet leave p. demand (board_of _ _ _ sheet leave) (table _) p _ _ _ _ c
table_right (Err e) c = tt

pub fused_right : {n r : ℕ} {add by_letter : List ℕ} {sheet leave leave_max : List ℤ} {pool : List ℕ} {mode : Mode} {num den deals num' den' deals' : List Float} {maxsheet maxsheet' : List ℤ}
    (answer : Result Unit Refusal)
    → Fused (input n r add by_letter sheet leave leave_max pool mode) (lent num den deals maxsheet) (number_of answer) (lent num' den' deals' maxsheet')
    → OnOk answer (RoadRight (board_of n r pool sheet leave) (fused mode leave_max) num' den')
fused_right (Ok v) c = λ p. demand _ (fused _ _) p _ _ _ _ (record { add = _; by_letter = _; deals = _; maxsheet = _; deals' = _; maxsheet' = _; contract = c })
fused_right (Err e) c = tt
