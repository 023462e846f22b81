-- When the lowest pending number of a group is ready.
use Rattle.std.specs.Prelude.{ℕ, zero, suc, ◌-◌, min, Bool, true, ◌&&◌, ◌||◌, not, cond, List, [], ◌∷◌, leb, eqb, drop}
use Rattle.std.specs.Prelude.{Option, Some, None}
use Rattle.laws.specs.Lists.{filter, list_all, list_any}
use Rattle.guids.specs.Guid.{Guid, same_guid}
use Rattle.rules.specs.Entry.{Entry, of_group}
use Rattle.rules.specs.State.{Writer, writer_of}
use Rattle.rules.specs.Marks.{past_of}
use Rattle.rules.specs.Sets.{Pair}
-- a row of a group with its discovered writers' digest (document 01, Release, 9)
pub use Rattle.rules.specs.declared.view.DigestRow.{DigestRow}

-- what the release of one group reads and does not change: the group's GUID and announced number, the known writers,
-- the group's counted rows, the digest rows, the release's time and the timeout
pub record Turn : Type 0 where
  pub guid : Guid
  pub announced : ℕ
  pub writers : List Writer
  pub counted : List Pair
  pub digests : List DigestRow
  pub now : ℕ
  pub timeout : ℕ

-- the stand-in for the digest's type (document 01, the digest type): accepted if the group's last four GUID bytes are zero or a row of the group equals it
unfoldable pub accepted : Guid → List DigestRow → Option ℕ → Bool
accepted g ds None = true
accepted g ds (Some d) = list_all (λ b. eqb b 0) (drop 12 g) || list_any (λ x. same_guid g x.group && eqb x.digest d) ds

-- a secure digest: accepted if it is 0 (the same)
unfoldable pub secure_accepted : Option ℕ → Bool
secure_accepted None = true
secure_accepted (Some d) = eqb d 0

-- every digest present at a known writer of the group is accepted (document 01, Ruled out; DDSI-RTPS 2.5 §8.7.5)
unfoldable pub digests_accepted : Turn → Bool
digests_accepted t =
    list_all
    (λ w. not (same_guid t.guid w.group) || (accepted t.guid t.digests w.digest && secure_accepted w.secure))
    t.writers

-- k numbers from a on
unfoldable pub all_from : ℕ → ℕ → (ℕ → Bool) → Bool
all_from a zero p = true
all_from a (suc k) p = p a && all_from (suc a) k p

-- the lowest of k numbers from a on that p does not hold of; a + k if it holds of all
unfoldable pub lowest_open : (ℕ → Bool) → ℕ → ℕ → ℕ
lowest_open p a zero = a
lowest_open p a (suc k) = cond (p a) (lowest_open p (suc a) k) a

-- the group's writer and the reader are past n
unfoldable pub pair_past : Turn → Guid → ℕ → ℕ → Bool
pair_past t w r n = past_of (writer_of t.guid w t.writers) r n

-- announced >= next, every digest accepted, and every counted pair is past every missing number (document 01, Ruled out; DDSI-RTPS 2.5 §8.7.5)
unfoldable pub ruled_out : Turn → ℕ → ℕ → Bool
ruled_out t committed next =
    leb next t.announced && digests_accepted t
    && all_from (suc committed) (next - suc committed) (λ n. list_all (λ p. pair_past t p.writer p.reader n) t.counted)

abbrev pub least : ℕ → Option ℕ → Option ℕ
least n None = Some n
least n (Some m) = Some (min n m)

module _ {X : Type 0} where
  -- the group's entries of a number, in offer order (document 01, release, step 3)
  unfoldable pub is_head : Turn → ℕ → Entry X → Bool
  is_head t n e = of_group t.guid e && eqb n e.number

  unfoldable pub head_of : Turn → ℕ → List (Entry X) → List (Entry X)
  head_of t n l = filter (λ e. is_head t n e) l

  unfoldable pub lowest_number : List (Entry X) → Option ℕ
  lowest_number [] = None
  lowest_number (e ∷ l) = least e.number (lowest_number l)

  -- the lowest pending number of the group (document 01, release, step 2)
  unfoldable pub next : Turn → List (Entry X) → Option ℕ
  next t l = lowest_number (filter (λ e. of_group t.guid e) l)

  -- for each entry of the number, every counted reader of its writer has an entry of that number or is past it (document 01, Copies arrived)
  unfoldable pub copies_arrived : Turn → ℕ → List (Entry X) → Bool
  copies_arrived t n l =
      list_all
      (λ e. list_all
      (λ p. not (same_guid e.writer p.writer) || list_any (λ o. eqb p.reader o.reader) l || pair_past t p.writer p.reader n)
      t.counted)
      l

  -- in turn or ruled out, and its copies arrived (document 01, release, step 2; DDSI-RTPS 2.5 §8.7.5)
  unfoldable pub ready : Turn → ℕ → ℕ → List (Entry X) → Bool
  ready t committed n l = (eqb n (suc committed) || ruled_out t committed n) && copies_arrived t n (head_of t n l)
