-- The coherent-set gate of one reader (document 01, "Gate, marker, scopes, filter hold" and "Operations"; DDSI-RTPS 2.5 §8.7.6).
use Rattle.std.specs.Prelude.{ℕ, ◌+◌, ◌*◌, ◌/◌, Bool, true, false, ◌&&◌, not, cond, List, [], ◌∷◌, ◌++◌, map, ℤ, pos, ◌-ℤ◌, ltb, leb, eqb, length, take, drop, replicate}
use Rattle.std.specs.Prelude.{Option, Some, None, Result, Ok, Err}
use Rattle.std.specs.Int.{w64}
use Rattle.std.proofs.Common.{of_z}
use Rattle.laws.specs.Answer.{Answer, refused, answered}
use Rattle.laws.specs.Whole.{eq_z}
use Rattle.laws.specs.Bytes.{number_of}
use Rattle.laws.specs.Lists.{filter, count}
use Rattle.guids.specs.Guid.{Guid, same_guid}
use Rattle.refusals.specs.declared.Refusal.{Refusal}
use Rattle.refusals.specs.Refusal.{number_of as refusal_number}
use Rattle.coherent_hold.specs.declared.items.Change as Cs
use Rattle.coherent_hold.specs.declared.items.Change.TheVariants as Cv
use Rattle.coherent_hold.specs.declared.items.Kind as Ks
use Rattle.coherent_hold.specs.declared.items.Kind.TheVariants as Kv
use Rattle.coherent_hold.specs.declared.items.Item as It
use Rattle.coherent_hold.specs.declared.items.Member.{Member}
use Rattle.coherent_hold.specs.declared.hold.CoherentHold.{CoherentHold}
use Rattle.coherent_hold.specs.declared.gate.Gated.{Gated}
use Rattle.coherent_hold.specs.declared.gate.Gated.TheVariants.{Passed, Incomplete}

-- a sample, a lifecycle change, or the end of a writer's set with its own number and the complete flag, if given
pub data Kind : Type 0 where
  is_sample is_lifecycle : Kind
  is_end : Option ℤ → Option Bool → Kind

pub record Item : Type 0 where
  pub kind : Kind
  pub writer : Guid
  pub set : Option ℤ
  pub item : ℕ

abbrev pub ends : Kind → Bool
ends is_sample = false
ends is_lifecycle = false
ends (is_end o c) = true

abbrev pub changes : Kind → Bool
changes is_sample = false
changes is_lifecycle = true
changes (is_end o c) = false

abbrev pub present : Option ℤ → Bool
present None = false
present (Some z) = true

abbrev pub same_mark : Option ℤ → Option ℤ → Bool
same_mark None t = false
same_mark (Some z) None = false
same_mark (Some z) (Some y) = eq_z z y

-- a member of a set: a sample or a lifecycle change with a set mark; −4294967296 is a mark like any other
abbrev pub member_mark : Item → Option ℤ
member_mark i = cond (ends i.kind) None i.set

unfoldable pub is_member : Item → Bool
is_member i = present (member_mark i)

-- held members of the writer, but those of the set that is named
abbrev pub leaves : Guid → Option ℤ → Item → Bool
leaves w s h = same_guid w h.writer && not (same_mark s h.set)

-- by the complete flag if given; else, with a first held member and an own number, the members number own − its set mark; else whole
abbrev pub first_mark : List Item → Option ℤ
first_mark [] = None
first_mark (h ∷ l) = h.set

abbrev pub count_is : ℕ → Option ℤ → Option ℤ → Bool
count_is n None o = true
count_is n (Some m) None = true
count_is n (Some m) (Some o) = eq_z (pos n) (o -ℤ m)

abbrev pub set_is_complete : List Item → Option ℤ → Option Bool → Bool
set_is_complete l o (Some c) = c
set_is_complete l o None = count_is (length l) (first_mark l) o

-- what the gate writes, the member number of an incomplete set, and what it holds then
pub record Effect : Type 0 where
  pub out : List Item
  pub incomplete : Option ℕ
  pub hold : List Item

-- coherent access off: an end is dropped, any other item passes, what is held stays held
abbrev pub passed : Item → List Item → Effect
passed i l = record { out = cond (ends i.kind) [] (i ∷ []); incomplete = None; hold = l }

-- on: a member releases its writer's other sets, unchecked, and is held
unfoldable pub held_back : Item → List Item → Effect
held_back i l = record {
  out = filter (λ h. leaves i.writer i.set h) l;
  incomplete = None;
  hold = filter (λ h. not (leaves i.writer i.set h)) l ++ (i ∷ []);
}

-- an end is judged; any other item follows all of its writer's held ones, unchecked
abbrev pub ended : Bool → List Item → List Item → Effect
ended true out l = record { out = out; incomplete = None; hold = l }
ended false out l = record { out = []; incomplete = Some (length out); hold = l }

abbrev pub followed : Item → List Item → List Item → Effect
followed i out l = record { out = out ++ (i ∷ []); incomplete = None; hold = l }

abbrev pub after : Kind → Item → List Item → List Item → Effect
after is_sample i out l = followed i out l
after is_lifecycle i out l = followed i out l
after (is_end o c) i out l = ended (set_is_complete out o c) out l

unfoldable pub gated : Bool → Item → List Item → Effect
gated a i l =
    cond a
    (cond (is_member i) (held_back i l)
    (after i.kind i (filter (λ h. leaves i.writer None h) l) (filter (λ h. not (leaves i.writer None h)) l)))
    (passed i l)

-- 64 are held, of which a member of the set releases none
unfoldable pub is_full : List Item → Item → Bool
is_full l i = leb 64 (length l) && eqb (count (λ h. leaves i.writer i.set h) l) 0

-- 5: room for fewer than the held members and one; 7: access on, a member, and 64 held of which it releases none
unfoldable pub gate : List Item → Item → Bool → ℕ → Answer Effect
gate l i a room =
    cond (ltb room (length l + 1)) (refused 5)
    (cond (a && is_member i && is_full l i) (refused 7)
    (answered (gated a i l)))

-- ---- the lent list: five words an item

-- 1 of a lifecycle change, 0 of a sample; an end is never written
abbrev pub kind_word : Kind → ℕ
kind_word k = cond (changes k) 1 0

-- 2 with a set mark; then the mark's 64 bits, 0 without one
abbrev pub mark_word : Option ℤ → ℕ
mark_word None = 0
mark_word (Some z) = 2

abbrev pub mark_bits : Option ℤ → ℕ
mark_bits None = 0
mark_bits (Some z) = of_z w64 z

-- kind and whether a set mark is there, the writer's first and last eight bytes as big-endian numbers, the set mark, the item
abbrev pub words_of : Item → List ℕ
words_of i =
    (kind_word i.kind + mark_word i.set) ∷ number_of (take 8 i.writer) ∷ number_of (take 8 (drop 8 i.writer)) ∷ mark_bits i.set ∷ i.item ∷ []

unfoldable pub words : List Item → List ℕ
words [] = []
words (i ∷ l) = words_of i ++ words l

-- the items' words from the first place on; all places past them stay
unfoldable pub written : List Item → List ℕ → List ℕ
written l o = words l ++ drop (length l * 5) o

-- ---- a call: the number of whole items written and the member number of an incomplete set; the hold; the lent list

pub record Call : Type 0 where
  pub answer : Answer (ℕ × Option ℕ)
  pub hold : List Item
  pub list : List ℕ

-- a refused call changes neither
unfoldable pub left_by : List Item → List ℕ → Answer Effect → Call
left_by l o (refused n) = record { answer = refused n; hold = l; list = o }
left_by l o (answered g) = record { answer = answered (length g.out, g.incomplete); hold = g.hold; list = written g.out o }

-- the list has room for as many whole items as it has places by fives
unfoldable pub gate_call : List Item → Item → Bool → List ℕ → Call
gate_call l i a o = left_by l o (gate l i a (length o / 5))

-- ---- what the code's records stand for

abbrev pub change_as : Cs.Change → Kind
change_as Cv.Sample = is_sample
change_as Cv.Lifecycle = is_lifecycle

abbrev pub kind_as : Ks.Kind → Kind
kind_as (Kv.Change c) = change_as c
kind_as (Kv.End e) = is_end e.own e.complete

abbrev pub item_as : It.Item → Item
item_as i = record { kind = kind_as i.kind; writer = i.writer; set = i.set; item = i.item }

abbrev pub member_as : Member → Item
member_as m = record { kind = change_as m.change; writer = m.writer; set = Some m.set; item = m.item }

-- what stands in a place where nothing is held
abbrev pub blank_member : Member
blank_member = record { change = Cv.Sample; writer = replicate 16 0; set = pos 0; item = 0 }

abbrev pub hold_as : CoherentHold → List Item
hold_as h = map (λ m. member_as m) h.held.items

abbrev pub fresh_hold : CoherentHold
fresh_hold = record { held = record { items = [] } }

-- document 01's values of each case
abbrev pub gated_as : Gated → ℕ × Option ℕ
gated_as (Passed n) = (n, None)
gated_as (Incomplete n) = (0, Some n)

abbrev pub gate_answer_as : Result Gated Refusal → Answer (ℕ × Option ℕ)
gate_answer_as (Ok g) = answered (gated_as g)
gate_answer_as (Err e) = refused (refusal_number e)

abbrev pub call_as : Result Gated Refusal → CoherentHold → List ℕ → Call
call_as r h o = record { answer = gate_answer_as r; hold = hold_as h; list = o }
