-- The filter hold (document 01, "Operations: Filter hold" and "Gate, marker, scopes, filter hold"; DDS 1.4 §2.2.3.12).
use Prim.{Unit, tt}
use Rattle.std.specs.Prelude.{ℕ, ◌+◌, ◌*◌, ◌/◌, ◌%◌, min, Bool, true, ◌&&◌, ◌||◌, not, cond, List, [], ◌∷◌, ◌++◌, ℤ, pos, negsuc, ltb, leb, eqb, length, take, drop}
use Rattle.std.specs.Int.Signed.{lt_z}
use Rattle.laws.specs.Answer.{Answer, refused, answered}
use Rattle.laws.specs.Whole.{eq_z}
use Rattle.laws.specs.Lists.{filter, list_all, list_any, index_of}
use Rattle.filter_hold.specs.declared.tbf.Time.{Time}
use Rattle.filter_hold.specs.declared.tbf.Separation.{Separation}
use Rattle.filter_hold.specs.declared.tbf.Held.{Held}

-- ---- times

-- a is at or before b: by seconds, then nanoseconds
unfoldable pub not_after : Time → Time → Bool
not_after a b = lt_z a.sec b.sec || (eq_z a.sec b.sec && leb a.nanosec b.nanosec)

-- negative seconds count as 0
abbrev pub from_zero : ℤ → ℕ
from_zero (pos n) = n
from_zero (negsuc n) = 0

-- a number of nanoseconds as a time: the seconds stop at 2147483647, the nanoseconds stay the remainder
unfoldable pub time_of : ℕ → Time
time_of total = record { sec = pos (min (total / 1000000000) 2147483647); nanosec = total % 1000000000 }

-- at + separation, in whole nanoseconds
unfoldable pub time_after : Time → Separation → Time
time_after at s = time_of (from_zero at.sec * 1000000000 + at.nanosec + (s.sec * 1000000000 + s.nanosec))

-- ---- what is held: at most one sample of an instance, in the order of the instances

abbrev pub nothing : List Held
nothing = []

unfoldable pub is_of : ℕ → Held → Bool
is_of k x = eqb k x.instance

unfoldable pub follows : ℕ → Held → Bool
follows k x = ltb k x.instance

-- each instance is larger than those before it
unfoldable pub rising : List Held → Bool
rising [] = true
rising (x ∷ l) = list_all (λ y. follows x.instance y) l && rising l

-- before the first of a larger instance
unfoldable pub insert : Held → List Held → List Held
insert h l = take (index_of (λ x. follows h.instance x) l) l ++ (h ∷ drop (index_of (λ x. follows h.instance x) l) l)

-- a sample of the instance passed the filter: the held one is older
unfoldable pub supersede : ℕ → List Held → List Held
supersede k l = filter (λ x. not (is_of k x)) l

-- hold: 10, separation nanoseconds of 1,000,000,000 or more; 8, a new instance while 32 are held;
-- else held in place of the instance's earlier one
unfoldable pub hold : ℕ → ℕ → Time → Separation → List Held → Answer (Unit {0}) × List Held
hold k i arrival s l =
    cond (leb 1000000000 s.nanosec) (refused 10, l)
    (cond (not (list_any (λ x. is_of k x) l) && leb 32 (length l)) (refused 8, l)
    (answered tt, insert (record { instance = k; item = i; due = time_after arrival s }) (supersede k l)))

-- due at or before a time, and the others
unfoldable pub due_at : Time → List Held → List Held
due_at t l = filter (λ x. not_after x.due t) l

unfoldable pub not_due_at : Time → List Held → List Held
not_due_at t l = filter (λ x. not (not_after x.due t)) l

-- a sample's two words: instance, item
unfoldable pub words : List Held → List ℕ
words [] = []
words (x ∷ l) = x.instance ∷ x.item ∷ words l

-- written from the start; the places behind stay
unfoldable pub written : List Held → List ℕ → List ℕ
written l out = words l ++ drop (length l * 2) out

-- take due: 5, a list with room for fewer than the number due, two places a sample; else the number due, what stays held, the list
unfoldable pub take_due : Time → List Held → List ℕ → Answer ℕ × List Held × List ℕ
take_due t l out =
    cond (ltb (length out / 2) (length (due_at t l))) (refused 5, l, out)
    (answered (length (due_at t l)), not_due_at t l, written (due_at t l) out)
