-- An entry of the history: what an offer brought, over any type X of what a sample carries. No rule looks into X.
use Rattle.std.specs.Prelude.{ℕ, Bool, true, false, ◌&&◌, not, ℤ, eqb}
use Rattle.std.specs.Prelude.{Option, Some, None}
use Rattle.laws.specs.Whole.{eq_z}
use Rattle.guids.specs.Guid.{Guid, same_guid}
use Rattle.laws.specs.Lists.{is_some}
-- a sample, or the end of a coherent set with the writer's first number in the set and the end's own (document 01, Forms by place; DDSI-RTPS 2.5 §8.7.6)
pub use Rattle.rules.specs.declared.entry.What.{What}
pub use Rattle.rules.specs.declared.entry.What.TheVariants.{Sample, End}
pub use Rattle.rules.specs.declared.entry.SetEnd.{SetEnd}
-- what the history stores of an offer
pub use Rattle.rules.specs.declared.entry.Entry.{Entry}

abbrev pub set_end : {X : Type 0} → Option ℤ → Option ℤ → What X
set_end f o = End (record { first = f; own = o })

abbrev pub is_sample_w : {X : Type 0} → What X → Bool
is_sample_w (Sample x) = true
is_sample_w (End u) = false

-- a set number is present, and is z
abbrev pub is_set : ℤ → Option ℤ → Bool
is_set z None = false
is_set z (Some y) = eq_z z y

-- two set numbers are present and the same
abbrev pub same_set : Option ℤ → Option ℤ → Bool
same_set None t = false
same_set (Some z) t = is_set z t

module _ {X : Type 0} where
  unfoldable pub is_sample : Entry X → Bool
  is_sample e = is_sample_w e.what

  -- of the group
  unfoldable pub of_group : Guid → Entry X → Bool
  of_group g e = same_guid g e.group

  -- of the group's set z
  unfoldable pub in_set : Guid → ℤ → Entry X → Bool
  in_set g z e = of_group g e && is_set z e.set

  -- of the pair of writer and reader
  unfoldable pub of_pair : Guid → ℕ → Entry X → Bool
  of_pair w r e = same_guid w e.writer && eqb r e.reader

  -- a member of the set
  unfoldable pub is_member : Guid → ℤ → Entry X → Bool
  is_member g z e = in_set g z e && is_sample e

  -- the kept end of the pair in the set
  unfoldable pub is_end_of : Guid → ℤ → Guid → ℕ → Entry X → Bool
  is_end_of g z w r e = in_set g z e && not (is_sample e) && of_pair w r e

  -- marks its set ended
  unfoldable pub marks : Entry X → Bool
  marks e = is_some e.ended
