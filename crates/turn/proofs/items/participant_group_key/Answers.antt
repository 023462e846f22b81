-- The last four bytes are zeros.
use mathlib.Core.Path.{◌≡◌}
use lib.ListN.{length}
use Rattle.turn.proofs.ItemLaws.{key_made}
use borrow.Author.Rules.{rules}
use Rattle.turn.proofs.items.participant_group_key.Goals as goal

pub returns : goal.returns
returns c = let h : length c.args.writer ≡ 16 = search rules in
    key_made c.args.writer h
