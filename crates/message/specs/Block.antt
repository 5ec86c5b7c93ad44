-- Bytes looked at together: which of them make no number that is refused, and how many numbers end in them.
use Rattle.std.specs.Prelude.{ℕ, zero, suc, ◌+◌, ◌-◌, ◌≤◌, ◌≡◌, Bool, true, cond, not, ◌&&◌, ◌||◌, List, ltb, eqb, length, drop, get_or}
use Rattle.message.specs.Number.{numbers_in}
use Rattle.message.specs.Offset.{passed_of}

-- "top bit set when more follow": 1, else 0
abbrev pub goes_on : (byte : ℕ) → ℕ
goes_on b = cond (ltb b 128) 0 1

-- a byte i behind eight others: it is 0 only behind a last byte, and no nine go on
unfoldable pub standing : (a b c d e f g h i : ℕ) → Bool
standing a b c d e f g h i =
    (not (eqb i 0) || ltb h 128)
    && ((ltb a 128 || (ltb b 128 || (ltb c 128 || ltb d 128))) || (ltb e 128 || (ltb f 128 || (ltb g 128 || (ltb h 128 || ltb i 128)))))

-- the byte eight places behind one
unfoldable pub stands : List ℕ → ℕ → Bool
stands s k =
    standing (get_or s k 0) (get_or s (k + 1) 0) (get_or s (k + 2) 0) (get_or s (k + 3) 0) (get_or s (k + 4) 0) (get_or s (k + 5) 0) (get_or s (k + 6) 0) (get_or s (k + 7) 0) (get_or s (k + 8) 0)

-- so many bytes from eight places behind one on
unfoldable pub sound_to : List ℕ → (from bytes : ℕ) → Bool
sound_to s from zero = true
sound_to s from (suc t) = sound_to s from t && stands s (from + t)

-- how many of them go on
unfoldable pub more_to : List ℕ → (from bytes : ℕ) → ℕ
more_to s from zero = 0
more_to s from (suc t) = more_to s from t + goes_on (get_or s (from + t + 8) 0)

-- where the number begins whose first bytes stand before an offset: behind the last byte that does not go on
unfoldable pub begin_of : List ℕ → (at : ℕ) → ℕ
begin_of s zero = 0
begin_of s (suc j) = cond (ltb (get_or s j 0) 128) (suc j) (begin_of s j)

-- some numbers passed over, of n from an offset on: what is left has the same end
pub record Reaches (s : List ℕ) (at n numbers to : ℕ) : Type 0 where
  pub few : numbers ≤ n
  pub inside : to ≤ length s
  pub same : passed_of (length s) (numbers_in n (drop at s)) ≡ passed_of (length s) (numbers_in (n - numbers) (drop to s))
