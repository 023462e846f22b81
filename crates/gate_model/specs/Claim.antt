-- What is claimed: on every list of calls the gate of the source, as Source.antt has it, and document 01's definition give the same.
use Rattle.std.specs.Prelude.{ℕ, ◌+◌, ◌/◌, ◌≡◌, Bool, false, ◌&&◌, cond, List, [], ◌∷◌, map, ℤ, ltb, leb, eqb, length}
use Rattle.std.specs.Prelude.{Option, Some, None, Result}
use Rattle.laws.specs.Answer.{Answer, refused, answered}
use Rattle.guids.specs.Guid.{Guid}
use Rattle.coherent_hold.specs.Gate.{Kind, is_sample, is_lifecycle, is_end, Item, Effect, item_as, hold_as, gate_answer_as, written}
use Rattle.coherent_hold.specs.Gate as D
use Rattle.refusals.specs.declared.Refusal.{Refusal}
use Rattle.coherent_hold.specs.declared.items.Item as It
use Rattle.coherent_hold.specs.declared.hold.CoherentHold.{CoherentHold}
use Rattle.coherent_hold.specs.declared.gate.Gated as Gd
use Rattle.gate_model.specs.Source.{UserSample, alive, lifecycle, coherent_set_end, coherent_member, release, Gated, gate}

-- an item of the definition as the source has it; of an end neither set mark nor item
abbrev pub sample_w : Kind → Item → UserSample
sample_w is_sample i = alive i.writer i.set i.item
sample_w is_lifecycle i = lifecycle i.writer i.set i.item
sample_w (is_end o c) i = coherent_set_end i.writer o c

unfoldable pub sample_of : Item → UserSample
sample_of i = sample_w i.kind i

-- ---- document 01's refusals around the source's gate: 5, then 7

-- 64 are held, of which a member of a set releases none
abbrev pub is_full : List UserSample → Option (Guid × ℤ) → Bool
is_full hold None = false
is_full hold (Some x) = leb 64 (length hold) && eqb (length (release x.0 (Some x.1) hold).0) 0

unfoldable pub gate_or : List UserSample → UserSample → Bool → ℕ → Answer Gated
gate_or hold item access room =
    cond (ltb room (length hold + 1)) (refused 5)
    (cond (access && is_full hold (coherent_member item)) (refused 7)
    (answered (gate hold item access)))

-- ---- a list of calls, each an item, whether access is coherent, and the room lent

pub record Call : Type 0 where
  pub item : Item
  pub access : Bool
  pub room : ℕ

-- what is held after a call, and what it answers: the items released, and the member number of an incomplete set
abbrev pub held_after : List UserSample → Answer Gated → List UserSample
held_after hold (refused n) = hold
held_after hold (answered g) = g.hold

abbrev pub answer_of : Answer Gated → Answer (List UserSample × Option ℕ)
answer_of (refused n) = refused n
answer_of (answered g) = answered (g.items, g.incomplete)

unfoldable pub answers : List UserSample → List Call → List (Answer (List UserSample × Option ℕ))
answers hold [] = []
answers hold (c ∷ cs) =
    let r : Answer Gated = gate_or hold (sample_of c.item) c.access c.room in
    answer_of r ∷ answers (held_after hold r) cs

unfoldable pub run : List UserSample → List Call → List UserSample
run hold [] = hold
run hold (c ∷ cs) = run (held_after hold (gate_or hold (sample_of c.item) c.access c.room)) cs

-- the same by the definition
abbrev pub kept_by : List Item → Answer Effect → List Item
kept_by l (refused n) = l
kept_by l (answered e) = e.hold

abbrev pub told_by : Answer Effect → Answer (List UserSample × Option ℕ)
told_by (refused n) = refused n
told_by (answered e) = answered (map (λ i. sample_of i) e.out, e.incomplete)

unfoldable pub answers_by : List Item → List Call → List (Answer (List UserSample × Option ℕ))
answers_by l [] = []
answers_by l (c ∷ cs) =
    let r : Answer Effect = D.gate l c.item c.access c.room in
    told_by r ∷ answers_by (kept_by l r) cs

unfoldable pub run_by : List Item → List Call → List Item
run_by l [] = l
run_by l (c ∷ cs) = run_by (kept_by l (D.gate l c.item c.access c.room)) cs

-- from an empty hold
pub record SameRun (cs : List Call) : Type 0 where
  pub answers_same : answers [] cs ≡ answers_by [] cs
  pub hold_same : run [] cs ≡ map (λ i. sample_of i) (run_by [] cs)

-- ---- one call of the code, with what it was given and answered, beside the source's on the same hold

abbrev pub items_of : Answer Gated → List UserSample
items_of (refused n) = []
items_of (answered g) = g.items

abbrev pub counted : Answer Gated → Answer (ℕ × Option ℕ)
counted (refused n) = refused n
counted (answered g) = answered (length g.items, g.incomplete)

-- the hold as the source has it
unfoldable pub held_in : CoherentHold → List UserSample
held_in h = map (λ i. sample_of i) (hold_as h)

-- the hold was h and is k then, the list was o and is p then
pub record CodeSame (h : CoherentHold) (i : It.Item) (a : Bool) (o : List ℕ) (r : Result Gd.Gated Refusal) (k : CoherentHold) (p : List ℕ) : Type 0 where
  pub answer_is : gate_answer_as r ≡ counted (gate_or (held_in h) (sample_of (item_as i)) a (length o / 5))
  pub hold_is : held_in k ≡ held_after (held_in h) (gate_or (held_in h) (sample_of (item_as i)) a (length o / 5))
  -- what is written are the items that the source returns
  pub out : List Item
  pub items_are : map (λ i. sample_of i) out ≡ items_of (gate_or (held_in h) (sample_of (item_as i)) a (length o / 5))
  pub list_is : p ≡ written out o
