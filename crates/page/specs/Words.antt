-- The page in a lent list of words (document 02, U5): 64 rows of four words each.
use Rattle.std.specs.Prelude.{ℕ, ◌/◌, List, [], ◌∷◌, ◌++◌, length, drop}
use Rattle.std.specs.Prelude.{Option, Some, None}
use Rattle.laws.specs.Answer.{Answer, refused, answered}
use Rattle.rules.specs.State.{State}
use Rattle.rules.specs.Page.{Row, Page, page}

-- the words of a row: its tag, the samples pending, those held, their oldest offer time
-- tag 0: no group is known there; 1: no sample, so no time; 2: a time. A word that says nothing is 0
abbrev pub known_words : ℕ → ℕ → Option ℕ → List ℕ
known_words p h None = 1 ∷ p ∷ h ∷ 0 ∷ []
known_words p h (Some t) = 2 ∷ p ∷ h ∷ t ∷ []

abbrev pub words_of : Option Row → List ℕ
words_of None = 0 ∷ 0 ∷ 0 ∷ 0 ∷ []
words_of (Some r) = known_words r.pending r.held r.oldest

-- the rows in order, and what stands behind them
unfoldable pub listed : List (Option Row) → List ℕ → List ℕ
listed [] m = m
listed (o ∷ l) m = words_of o ++ listed l m

abbrev pub shown : Answer Page → List ℕ → Answer ℕ × List ℕ
shown (refused n) l = (refused n, l)
shown (answered p) l = (answered p.read, listed p.rows (drop 256 l))

-- the answer (the entries read, or document 01's number) and the lent list; words past the 64 rows stay, and so does a list that is refused
unfoldable pub page_to : State ℕ → List ℕ → Answer ℕ × List ℕ
page_to s l = shown (page s (length l / 4)) l
