-- What a release answers and leaves: the state, and the lent list.
use Rattle.std.specs.Prelude.{ℕ, List, length}
use Rattle.laws.specs.Answer.{Answer, refused, answered}
use Rattle.rules.specs.State.{State}
use Rattle.rules.specs.Release.{View, Outcome, release}
use Rattle.rules.specs.Run.{said_release, written}
use Rattle.rules.specs.declared.view.Pair.{Pair}
use Rattle.rules.specs.declared.view.DigestRow.{DigestRow}

-- an answered release: the number of places written
abbrev pub count_out : Answer (Outcome ℕ) → Answer ℕ
count_out (refused n) = refused n
count_out (answered r) = answered (length r.out)

unfoldable pub release_to : State ℕ → View → ℕ → List ℕ → Answer ℕ × State ℕ × List ℕ
release_to s v now l =
    let r : Answer (Outcome ℕ) × State ℕ = release s v now (length l) in
    (count_out r.0, r.1, written (said_release r.0) l)

-- the view of two lists of rows
abbrev pub view_of : List Pair → List DigestRow → View
view_of ps ds = record { counted = ps; digests = ds }
