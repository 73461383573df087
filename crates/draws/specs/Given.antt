-- What a call is judged over. Assumes nothing.
use Rattle.std.specs.Prelude.{◌≡◌, List, ℕ, ℤ}
use Rattle.draws.specs.declared.walk.Tables.{Tables}

-- the tables are those of a call
pub record Given (n r : ℕ) (add : List ℕ) (full : List ℤ) (pool : List ℕ) (t : Tables) : Type 0 where
  pub letters : t.sizes.n ≡ n
  pub tiles : t.sizes.r ≡ r
  pub adds : t.add.now ≡ add
  pub fulls : t.full_v.now ≡ full
  pub pools : t.pool.now ≡ pool
