use Rattle.std.proofs.Common.{◌∙◌}
use Rattle.hex_digits.proofs.Spelled.{put_none, put_more}
use Rattle.hex_digits.proofs.text.put_hex.Goals as goal

pub loop-byte-init : goal.loop-byte-init
loop-byte-init g c = put_none g.row.N c.args.out.now.items c.if-is_full.ensures.fits

pub loop-byte-preserved : goal.loop-byte-preserved
loop-byte-preserved g c =
    c.put_bytes.ensures
    ∙ rw (c.digit.ensures, c.digit-in-loop-byte.ensures)
    (put_more g.row.N c.args.out.now.items c.loop-byte.out.items c.args.bytes.now c.loop-byte.byte-index c.loop-byte-test.true c.loop-byte.invariant)
