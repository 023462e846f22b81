-- Items off a reader's channel, and the offers that they make (document 01, "Files" and "Forms").
use Rattle.std.specs.Prelude.{ℕ, ◌≡◌, List, ◌++◌, take, replicate, Option, None, Some}
use Rattle.laws.specs.Answer.{Answer, Kept}
use Rattle.guids.specs.Guid.{Guid}
use Rattle.rules.specs.State.{State}
use Rattle.rules.specs.Offer as O
use Rattle.rules.specs.declared.call.Offer.{Offer}
use Rattle.rules.specs.declared.call.Fate.{Fate}
use Rattle.turn.specs.declared.items.GroupMark.{GroupMark}
use Rattle.turn.specs.declared.items.GroupItem.{GroupItem}

-- a participant's group: the first twelve bytes, and four zeros
unfoldable pub participant_key : Guid → Guid
participant_key w = take 12 w ++ replicate 4 0

abbrev pub offer_by : Guid → GroupMark → GroupItem → Offer ℕ
offer_by g m i = record {
  group = g;
  writer = i.writer;
  reader = i.reader;
  number = m.number;
  set = m.set;
  digest = m.digest;
  what = i.what;
  time = i.time;
}

-- the offer that an item makes: of the group that was named, else of the participant's; none without group information
abbrev pub offer_of : GroupItem → Option GroupMark → Option Guid → Option (Offer ℕ)
offer_of i None g = None
offer_of i (Some m) None = Some (offer_by (participant_key i.writer) m i)
offer_of i (Some m) (Some g) = Some (offer_by g m i)

abbrev pub brings : GroupItem → Option (Offer ℕ)
brings i = offer_of i i.mark i.group

-- an item that makes none is given back
abbrev pub offer_item : State ℕ → Option (Offer ℕ) → Option (Answer Fate) × State ℕ
offer_item s None = (None, s)
offer_item s (Some o) = (Some (O.offer s o).0, (O.offer s o).1)

-- given back or refused: the state stays
unfoldable pub OfferKept : {X S : Type 0} → Option (Answer X) → S → S → Type 0
OfferKept None s t = t ≡ s
OfferKept (Some a) s t = Kept a s t
