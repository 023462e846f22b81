-- `setting::setting_in` meets its contract.
use Rattle.std.proofs.Common.{ap, sym, ◌∙◌}
use borrow.Author.Tests.{le-leb, lt-leb}
use Rattle.settings.proofs.Shown.{shown, shown_lifespan, setting_shown}
use Rattle.settings.proofs.setting.setting_in.Goals as goal

pub returns-then-version-lt2 : goal.returns-then-version-lt2
unfolding shown shown_lifespan
returns-then-version-lt2 c = let a = c.args in
    rw (c.pair.ensures, c.from.ensures, c.from-2.ensures, c.pair-2.ensures)
    (sym (setting_shown a.bytes.now (λ i. (c.type_inv.bytes i).fits) a.version c.requires ∙ ap (λ t. shown t a.bytes.now) (lt-leb 2 a.version c.if-version-lt2.true)))

pub returns-else-version-lt2 : goal.returns-else-version-lt2
unfolding shown shown_lifespan
returns-else-version-lt2 c = let a = c.args in
    rw (c.pair.ensures, c.from.ensures, c.from-2.ensures, c.pair-2.ensures, c.pair-else-version-lt2.ensures)
    (sym (setting_shown a.bytes.now (λ i. (c.type_inv.bytes i).fits) a.version c.requires ∙ ap (λ t. shown t a.bytes.now) (le-leb 2 a.version c.if-version-lt2.false)))
