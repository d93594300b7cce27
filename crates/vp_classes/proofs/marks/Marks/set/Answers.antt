use Rattle.std.proofs.Common.{◌≤◌, length, refl, subst}
use Rattle.vp_classes.specs.Marks.{IsThere}
use Rattle.vp_classes.proofs.Setting.{sets_page_at}
use Rattle.vp_classes.proofs.marks.Marks.set.Goals as goal

pub returns-in-Page : goal.returns-in-Page
returns-in-Page c =
    let there : (1 ≤ c.in-Page.page) × (c.in-Page.page ≤ length c.args.self.now.pages.items) = subst (IsThere c.args.self.now) c.in-Page.is c.requires in
    rw c.in-Page.is (sets_page_at _ _ c.in-Page.page c.args.to there refl refl refl refl refl refl)
