-- A number of the file.
use Rattle.std.specs.Prelude.{ℕ, zero, suc, ◌+◌, ◌*◌, ◌/◌, ◌%◌, ◌^◌, Bool, true, false, cond, not, ◌&&◌, List, [], ◌∷◌, ◌++◌, ltb, eqb}
use Rattle.quantity.specs.Lists.{all}
use Rattle.message.specs.Read.{Read, got, refused, onward}
use Rattle.message.specs.declared.FileCause.TheVariants.{Cut, NotShortest}

-- each is a byte
abbrev pub are_bytes : List ℕ → Bool
are_bytes s = all (λ (b : ℕ). ltb b 256) s

-- a number that a file can carry: "below 2^63"
abbrev pub fits_number : ℕ → Bool
fits_number n = ltb n (2 ^ 63)

-- a number whose lower groups make `low`, and whose next group counts `place`
abbrev pub above : (low place : ℕ) → Read ℕ → Read ℕ
above low place d = onward d (λ (v : ℕ) (r : List ℕ). got (low + place * v) r)

-- "shortest form": the last byte is 0 only where it is the first, too
abbrev pub last_byte : (first : Bool) (b : ℕ) → List ℕ → Read ℕ
last_byte first b r = cond (not first && eqb b 0) (refused NotShortest) (got b r)

-- "groups of seven bits, lowest first, top bit set when more follow", in at most so many bytes
unfoldable pub decode_in : (most : ℕ) (first : Bool) → List ℕ → Read ℕ
decode_in zero first s = refused NotShortest
decode_in (suc k) first [] = refused Cut
decode_in (suc k) first (b ∷ s) = cond (ltb b 128) (last_byte first b s) (above (b % 128) 128 (decode_in k false s))

-- "below 2^63": nine bytes
abbrev pub decode : List ℕ → Read ℕ
decode s = decode_in 9 true s

-- the shortest form of a number below 128 ^ most
unfoldable pub encode_in : (most n : ℕ) → List ℕ
encode_in zero n = []
encode_in (suc k) n = cond (ltb n 128) (n ∷ []) ((128 + n % 128) ∷ encode_in k (n / 128))

-- a number's bytes
abbrev pub encode : ℕ → List ℕ
encode n = encode_in 9 n

-- so many numbers, one behind the other
unfoldable pub numbers_in : ℕ → List ℕ → Read (List ℕ)
numbers_in zero s = got [] s
numbers_in (suc n) s =
    onward (decode s) (λ (v : ℕ) (r : List ℕ).
    onward (numbers_in n r) (λ (vs q : List ℕ).
    got (v ∷ vs) q))

-- the bytes of numbers
unfoldable pub encode_all : List ℕ → List ℕ
encode_all [] = []
encode_all (v ∷ vs) = encode v ++ encode_all vs
