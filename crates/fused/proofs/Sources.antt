-- What it says of a mode where its bests come from. Assumes nothing.
use Rattle.std.specs.Prelude.{◌≡◌, Bool, true, false, if◌then◌else◌, refl}
use Rattle.fused.specs.Answer.{sheet_alone, in_force}
use Rattle.fused.specs.Source.{source_of}
use Rattle.fused.specs.declared.mode.Mode.{Mode}
use Rattle.fused.specs.declared.mode.Source.TheVariants.{Sheet, Scatter, Split}

pub from_sheet : (m : Mode) → source_of m ≡ Sheet → sheet_alone m ≡ true
from_sheet m e = by (sheet_alone m) refl (in_force m) e
  where
    by : (a : Bool) → sheet_alone m ≡ a → (b : Bool) → (if a then Sheet else (if b then Scatter else Split)) ≡ Sheet → sheet_alone m ≡ true
    by true p b q = p
    by false p true q = cc
    by false p false q = cc

pub from_scatter : (m : Mode) → source_of m ≡ Scatter → (sheet_alone m ≡ false) × (in_force m ≡ true)
from_scatter m e = by (sheet_alone m) refl (in_force m) refl e
  where
    by : (a : Bool) → sheet_alone m ≡ a → (b : Bool) → in_force m ≡ b → (if a then Sheet else (if b then Scatter else Split)) ≡ Scatter → (sheet_alone m ≡ false) × (in_force m ≡ true)
    by true p b r q = cc
    by false p true r q = (p, r)
    by false p false r q = cc

pub from_split : (m : Mode) → source_of m ≡ Split → (sheet_alone m ≡ false) × (in_force m ≡ false)
from_split m e = by (sheet_alone m) refl (in_force m) refl e
  where
    by : (a : Bool) → sheet_alone m ≡ a → (b : Bool) → in_force m ≡ b → (if a then Sheet else (if b then Scatter else Split)) ≡ Split → (sheet_alone m ≡ false) × (in_force m ≡ false)
    by true p b r q = cc
    by false p true r q = cc
    by false p false r q = (p, r)
