use Rattle.std.proofs.Common.{rules, refl, arith}
use Rattle.register.proofs.Pages.{put_two}
use Rattle.register.proofs.begun.Begun.put.Goals as goal

pub returns-clause-page : goal.returns-clause-page
returns-clause-page c =
    let page = c.args.self.now in
    let both = put_two page.buffer.now _ c.args.value.now _ _ page.fill.now.mark 3 (omega arith) refl c.copy_from_slice.ensures.after c.copy_from_slice-2.ensures.after in
    search (rules, both)
