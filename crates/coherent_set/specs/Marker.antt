-- The wire form of a sequence number, and of a marker.
-- DDSI-RTPS 2.5 §9.3.2 (SequenceNumber_t): a signed high half and an unsigned low half, each of 32 bits; big-endian here.
use Rattle.std.specs.Prelude.{ℕ, ◌-◌, ◌%◌, ◌^◌, cond, List, ◌++◌, length, take, drop, ℤ, pos, negsuc, ◌+ℤ◌, ◌*ℤ◌, ◌==◌, Result, Ok, Err}
use Rattle.std.specs.Int.Signed.{shr_z}
use Rattle.std.specs.Int.{w32}
use Rattle.std.proofs.Common.{of_z, to_z}
use Rattle.laws.specs.Bytes.{bytes_of, number_of}
use Rattle.laws.specs.Answer.{Answer, refused, answered}
use Rattle.refusals.specs.declared.Refusal.{Refusal}
use Rattle.refusals.specs.Refusal as R
use Rattle.coherent_set.specs.declared.CoherentSetMarker.{CoherentSetMarker}

-- the halves of x = high · 2^32 + low, with 0 ≤ low < 2^32
unfoldable pub high : ℤ → ℤ
high x = shr_z x (2 ^ 32)

unfoldable pub low : ℤ → ℕ
low (pos n) = n % 2 ^ 32
low (negsuc n) = 2 ^ 32 - 1 - n % 2 ^ 32

unfoldable pub wire : ℤ → List ℕ
wire x = bytes_of 4 (of_z w32 (high x)) ++ bytes_of 4 (low x)

unfoldable pub unwire : List ℕ → ℤ
unwire bs = to_z w32 (number_of (take 4 bs)) *ℤ pos (2 ^ 32) +ℤ pos (number_of (drop 4 bs))

-- document 01, "Marker decode": 11 unless exactly eight bytes
abbrev pub decode : List ℕ → Answer ℤ
decode bs = cond (length bs == 8) (answered (unwire bs)) (refused 11)

-- the number of the marker that a call answers, or document 01's number of the refusal
abbrev pub marker_answer_as : Result CoherentSetMarker Refusal → Answer ℤ
marker_answer_as (Ok m) = answered m.set_first_sn
marker_answer_as (Err e) = refused (R.number_of e)
