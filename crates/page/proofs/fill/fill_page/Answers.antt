use Rattle.std.proofs.Common.{◌≡◌, ◌/◌, ◌*◌, length, drop, ap₂, ◌∙◌, arith}
use borrow.Author.Tests.{lt-ltb, le-ltb}
use Rattle.laws.specs.Answer.{answered}
use Rattle.rules.specs.Page.{page, page_of}
use Rattle.store.specs.Store.{state_of}
use Rattle.page.specs.Words.{page_to, listed}
use Rattle.page.proofs.fill.fill_page.Goals as goal

pub returns-then-short : goal.returns-then-short
unfolding page_to page
returns-then-short c = rw (lt-ltb (length c.args.rows.now / 4) 64 (omega arith))

pub returns : goal.returns
unfolding page_to page
returns c =
    let s = state_of c.args.store.now in
    let m : 4 * length c.page_of-read.result.0 ≡ 256 = omega arith in
    let l : c.write.new.list ≡ listed (page_of s).rows (drop 256 c.args.rows.now)
    = c.write.ensures ∙ ap₂ (λ rs k. listed rs (drop k c.args.rows.now)) c.page_of-read.ensures.rows m in
    rw (le-ltb (length c.args.rows.now / 4) 64 (omega arith)) (ap₂ (λ k x. (answered k, x)) c.page_of-read.ensures.read l)
