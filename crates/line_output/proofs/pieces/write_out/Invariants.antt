-- The front is written, and the rest is left.
use Rattle.std.proofs.Common.{◌≡◌, ℕ, List, ◌++◌}
use Rattle.std.specs.Io.KnownBytes.{Appends}
use Rattle.line_output.proofs.pieces.write_out.Given as goal

abbrev pub invariant-loop : goal.invariant-loop
invariant-loop g l =
    let W = g.W.Write.contents in (front : List ℕ) × (l.s ≡ front ++ l.rest) × Appends (W l.fn.writer) (W l.writer) front
