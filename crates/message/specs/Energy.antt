-- An energy as a number of the file.
use Rattle.std.specs.Prelude.{ℕ, ◌+◌, ◌*◌, ◌/◌, ◌%◌, ◌^◌, Bool, cond, ltb, eqb, ℤ, pos, negsuc}

-- "An energy v is sent as 2v if v ≥ 0, else -2v-1." Here negsuc n is -n-1.
unfoldable pub sent : ℤ → ℕ
sent (pos n) = 2 * n
sent (negsuc n) = 2 * n + 1

-- the energy that a number stands for
unfoldable pub received : ℕ → ℤ
received u = cond (eqb (u % 2) 0) (pos (u / 2)) (negsuc (u / 2))

-- an energy that a file can carry: "-2^62..2^62-1"
abbrev pub fits_energy : ℤ → Bool
fits_energy (pos n) = ltb n (2 ^ 62)
fits_energy (negsuc n) = ltb n (2 ^ 62)
