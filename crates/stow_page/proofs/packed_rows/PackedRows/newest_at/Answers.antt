use Rattle.std.proofs.Common.{sym, subst, ◌∙◌, arith}
use Rattle.std.proofs.lemmas.Option.{slice_get_within}
use Rattle.stow_tree_model.specs.Order.{VersionsRise}
use Rattle.stow_tree_model.specs.Version.{version_of}
use Rattle.stow_page.specs.Rows.{AreAlone}
use Rattle.stow_page.proofs.Looked.{newest_alone, newest_last, newest_before}
use Rattle.stow_page.proofs.packed_rows.PackedRows.newest_at.Goals as goal

pub overflow_add-next : goal.overflow_add-next
overflow_add-next g c = let low = slice_get_within c.args.self.now c.args.guess.index (version_of c.in_ok-version.version) c.in_ok-version.ensures in let len = c.len-len.ensures.len in let most = c.len-len.type_inv in omega (arith, low, len, most)

pub get-requires : goal.get-requires
get-requires g c = let low = slice_get_within c.args.self.now c.args.guess.index (version_of c.in_ok-version.version) c.in_ok-version.ensures in let len = c.len-len.ensures.len in let not = c.if-next-len.false in omega (arith, low, len, not)

pub returns-then-self : goal.returns-then-self
returns-then-self g c =
    sym c.in_ok-version.ensures ∙ newest_alone _ _ _ _ _ (subst VersionsRise c.self.view_is c.self.invariant.block.rise) (subst AreAlone c.self.view_is (c.self.invariant.alone c.if-self.true)) c.in_ok-version.ensures (sym c.is_up_to.ensures ∙ c.if-not-is_up_to.false)

pub returns-then-next-len : goal.returns-then-next-len
returns-then-next-len g c =
    sym c.in_ok-version.ensures ∙ newest_last _ _ _ _ _ c.len-len.ensures.rise c.in_ok-version.ensures (sym c.is_up_to.ensures ∙ c.if-not-is_up_to.false) (c.if-next-len.true ∙ c.len-len.ensures.len)

pub returns-else-is_up_to : goal.returns-else-is_up_to
returns-else-is_up_to g c =
    sym c.in_ok-version.ensures ∙ newest_before _ _ _ _ _ _ c.len-len.ensures.rise c.in_ok-version.ensures (sym c.is_up_to.ensures ∙ c.if-not-is_up_to.false) c.get.ensures.version (sym c.is_up_to-2.ensures ∙ c.if-is_up_to.false)
