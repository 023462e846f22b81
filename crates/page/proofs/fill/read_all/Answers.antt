use Rattle.std.proofs.Common.{refl, arith, length-take-le}
use Rattle.page.proofs.Reading.{few_then, read_none, read_more, read_count}
use Rattle.page.proofs.fill.read_all.Goals as goal

pub loop-e-init : goal.loop-e-init
loop-e-init c = (read_none c.args.pending c.args.store.now.groups.items c.args.page.now, refl)

pub read_entry-requires : goal.read_entry-requires
read_entry-requires c =
    few_then c.args.pending c.args.store.now.groups.items 256 512 _ c.args.page.now c.loop-e.page c.requires.few c.loop-e.invariant.0 (omega (arith, c.requires.count, length-take-le c.loop-e.e-index c.args.entries.now (omega arith)))

pub loop-e-preserved : goal.loop-e-preserved
loop-e-preserved c =
    (read_more c.args.pending c.args.store.now.groups.items c.args.entries.now c.loop-e.e-index _ c.args.page.now c.loop-e.page c.read_entry.new.page c.loop-e-test.true c.loop-e.invariant.0 c.read_entry.ensures, omega (arith, c.loop-e.invariant.1))

pub returns-clause-read : goal.returns-clause-read
returns-clause-read c = read_count c.args.pending c.args.store.now.groups.items c.args.entries.now _ (omega (arith, c.loop-e.invariant.1))
