-- What offers, heartbeats and gaps tell of a writer, and which numbers are past for a pair.
use Rattle.std.specs.Prelude.{ℕ, max, Bool, false, ◌&&◌, ◌||◌, not, cond, List, [], ◌∷◌, ◌++◌, ℤ, pos, negsuc, ltb, leb, get_or, set}
use Rattle.std.specs.Prelude.{Option, Some, None}
use Rattle.laws.specs.Lists.{change}
use Rattle.guids.specs.Guid.{Guid, before}
use Rattle.rules.specs.State.{Group, Writer, is_writer, knows_group, knows_writer, new_group, new_writer}

-- a group number: 0 and less are alike (proofs/Clamp.antt)
unfoldable pub number : ℤ → ℕ
number (pos n) = n
number (negsuc n) = 0

-- seen > n, or gap end >= n, or the last heartbeat has current > n and n is outside first..last (document 01, Number n is past; DDSI-RTPS 2.5 §8.7.5)
unfoldable pub past_marks : ℕ → ℕ → ℕ → ℕ → ℕ → ℕ → Bool
past_marks seen gap first last current n = ltb n seen || leb n gap || (ltb n current && not (leb first n && leb n last))

-- the number is past for the writer and the reader
unfoldable pub past : Writer → ℕ → ℕ → Bool
past w r n = past_marks (get_or w.seen r 0) (get_or w.gaps r 0) w.first w.last w.current n

-- an unknown writer is past nothing (the same)
unfoldable pub past_of : Option Writer → ℕ → ℕ → Bool
past_of None r n = false
past_of (Some w) r n = past w r n

-- where a group becomes known, it stands in the order of the GUIDs, in which a release takes the groups (document 01, Release takes)
unfoldable pub insert_group : Group → List Group → List Group
insert_group x [] = x ∷ []
insert_group x (y ∷ l) = cond (before x.guid y.guid) (x ∷ y ∷ l) (y ∷ insert_group x l)

-- groups and writers stay known for good (document 01, Operations)
unfoldable pub hear_group : Guid → List Group → List Group
hear_group g gs = cond (knows_group g gs) gs (insert_group (new_group g) gs)

unfoldable pub hear_writer : Guid → Guid → List Writer → List Writer
hear_writer g w ws = cond (knows_writer g w ws) ws (ws ++ (new_writer g w ∷ []))

-- a place of a list of marks, raised to n
unfoldable pub raise : List ℕ → ℕ → ℕ → List ℕ
raise l r n = set l r (max (get_or l r 0) n)

-- an offer raises the highest number seen and stores the digest (document 01, Rules of the history)
unfoldable pub saw : ℕ → ℕ → ℕ → Writer → Writer
saw r n d w = record {
  group = w.group;
  writer = w.writer;
  seen = raise w.seen r n;
  gaps = w.gaps;
  first = w.first;
  last = w.last;
  current = w.current;
  digest = Some d;
  secure = w.secure;
}

-- a gap raises the gap end (document 01, Rules of the history)
unfoldable pub gapped : ℕ → ℕ → Writer → Writer
gapped r n w = record {
  group = w.group;
  writer = w.writer;
  seen = w.seen;
  gaps = raise w.gaps r n;
  first = w.first;
  last = w.last;
  current = w.current;
  digest = w.digest;
  secure = w.secure;
}

-- the new digest where there is one
unfoldable pub or_keep : Option ℕ → Option ℕ → Option ℕ
or_keep None d = d
or_keep (Some n) d = Some n

-- a heartbeat replaces range, current number and secure digest, and the writer digest only if it has one (document 01, A heartbeat raises)
unfoldable pub announced : ℕ → ℕ → ℕ → Option ℕ → Option ℕ → Writer → Writer
announced f l c d s w = record {
  group = w.group;
  writer = w.writer;
  seen = w.seen;
  gaps = w.gaps;
  first = f;
  last = l;
  current = c;
  digest = or_keep d w.digest;
  secure = s;
}

-- it raises the group's announced number (the same)
unfoldable pub announced_to : ℕ → Group → Group
announced_to c g = record { guid = g.guid; committed = g.committed; announced = max g.announced c }

-- the writer is heard, and changed
unfoldable pub tell : Guid → Guid → (Writer → Writer) → List Writer → List Writer
tell g w f ws = change (λ x. is_writer g w x) f (hear_writer g w ws)
