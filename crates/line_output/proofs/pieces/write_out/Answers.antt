use Rattle.line_output.proofs.Writing.{front_of, front_kept, piece_on}
use Rattle.line_output.proofs.pieces.write_out.Goals as goal

pub returns-then-is_empty-clause-front : goal.returns-then-is_empty-clause-front
returns-then-is_empty-clause-front g c = let i = c.loop.invariant in front_of _ _ i.0 c.loop.rest.now _ i.1 i.2

pub returns-in_err-count-clause-front : goal.returns-in_err-count-clause-front
returns-in_err-count-clause-front g c = let i = c.loop.invariant in front_kept _ _ _ i.0 c.loop.rest.now _ i.1 i.2 c.in_err-count.ensures.bytes

pub loop-preserved : goal.loop-preserved
loop-preserved g c = let i = c.loop.invariant in piece_on _ _ _ i.0 c.loop.rest.now _ c.in_ok-count.count i.1 i.2 c.in_ok-count.ensures.bytes

pub returns-clause-front : goal.returns-clause-front
returns-clause-front g c = let i = c.loop.invariant in front_of _ _ i.0 c.loop.rest.now _ i.1 i.2
