-- A file: its calls, and where it ends or is refused.
use Rattle.std.specs.Prelude.{ℕ, zero, suc, ◌-◌, List, [], ◌∷◌, ◌++◌, length, Result, Ok, Err}
use Rattle.quantity.specs.Limits.{most_quarters}
use Rattle.message.specs.Cause.{cause_number}
use Rattle.message.specs.Read.{Read, got, refused}
use Rattle.message.specs.Call.{Sent, Carried, parse, print}
use Rattle.message.specs.declared.FileCause.{FileCause}
use Rattle.message.specs.declared.FileCause.TheVariants.{Cut}
use Rattle.message.specs.declared.FileRefusal.{FileRefusal}

-- the bytes of calls: "An empty file has no calls."
unfoldable pub print_all : List Sent → List ℕ
print_all [] = []
print_all (c ∷ cs) = print c ++ print_all cs

-- how a file ends
pub data Ending : Type 0 where
  whole : Ending
  stopped : FileCause → Ending

-- the calls of a file up to its end or its first refusal, and the bytes from there on
pub record Found : Type 0 where
  pub calls : List Sent
  pub left : List ℕ
  pub ending : Ending

-- a file that is refused here
abbrev pub stop : List ℕ → FileCause → Found
stop s x = record { calls = []; left = s; ending = stopped x }

-- "At the file's end it answers that no call follows"
abbrev pub or_end : List ℕ → Found → Found
or_end [] f = record { calls = []; left = []; ending = whole }
or_end (b ∷ s) f = f

-- one call more, before the others
abbrev pub before : Sent → Found → Found
before c f = record { calls = c ∷ f.calls; left = f.left; ending = f.ending }

-- the call at the head of the bytes, and those behind it
abbrev pub further : List ℕ → Read Sent → (List ℕ → Found) → Found
further s (got c r) k = before c (k r)
further s (refused x) k = stop s x

-- at most so many calls
unfoldable pub calls_within : (most room : ℕ) → List ℕ → Found
calls_within zero room s = or_end s (stop s Cut)
calls_within (suc k) room s = or_end s (further s (parse room s) (λ (r : List ℕ). calls_within k room r))

-- a file's calls: each takes some bytes, so there are no more of them than bytes
abbrev pub calls_in : (room : ℕ) → List ℕ → Found
calls_in room s = calls_within (length s) room s

-- calls that a file can carry
pub data CarriedAll : List Sent → Type 0 where
  none : CarriedAll []
  one : {c : Sent} {cs : List Sent} → Carried c → CarriedAll cs → CarriedAll (c ∷ cs)

-- how a file of so many bytes ends, of which so many are left: "its offset or, without one, the file's length"
abbrev pub verdict_at : (length left : ℕ) → Ending → Result ℕ FileRefusal
verdict_at n left whole = Ok n
verdict_at n left (stopped x) = Err (record { cause = x; offset = n - left })

-- the verdict on a file, with a series buffer of 2,980: "0 or the number of the first refusal (31 to 34)"
abbrev pub verdict_of : List ℕ → Result ℕ FileRefusal
verdict_of s = verdict_at (length s) (length (calls_in most_quarters s).left) (calls_in most_quarters s).ending

-- "0 or the number of the first refusal (31 to 34)"
abbrev pub refusal_of : Result ℕ FileRefusal → ℕ
refusal_of (Ok n) = 0
refusal_of (Err r) = cause_number r.cause

-- "its offset or, without one, the file's length"
abbrev pub offset_of : Result ℕ FileRefusal → ℕ
offset_of (Ok n) = n
offset_of (Err r) = r.offset
