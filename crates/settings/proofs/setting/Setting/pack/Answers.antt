-- `Setting::pack` meets its contract.
use Rattle.std.proofs.Common.{sym, ◌∙◌}
use Rattle.settings.proofs.Packing.{too_short, packs, high_first}
use Rattle.settings.proofs.setting.Setting.pack.Goals as goal

pub returns-then-out-size-clause-is : goal.returns-then-out-size-clause-is
returns-then-out-size-clause-is c = let a = c.args in
    too_short a.self a.out.now (sym c.fits.ensures ∙ c.if-not-fits.false) (rw c.version-version.ensures at c.if-out-size.true)

pub returns-clause-is : goal.returns-clause-is
returns-clause-is c = let a = c.args in
    let v = c.version-version.ensures in
    rw (c.copy_from_slice.ensures.after, c.to_be_bytes-bytes.ensures, high_first 8 c.bits.result, c.bits.ensures, v)
    (packs a.self a.out.now (sym c.fits.ensures ∙ c.if-not-fits.false) (rw v at c.if-out-size.false))
