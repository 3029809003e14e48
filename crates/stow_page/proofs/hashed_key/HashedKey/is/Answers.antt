use Rattle.std.proofs.Common.{sym, ap, ◌∙◌}
use Rattle.std.specs.Ordering.{is_eq}
use Rattle.std.specs.Cmp.{tied_itself}
use Rattle.std.specs.Cmp.Lexicographic.{nat_list_cmp_total}
use Rattle.std.proofs.lemmas.Bool.{true≢false}
use Rattle.stow_tree_model.specs.StowBytes.Bytes.{bytes_cmp}
use Rattle.stow_page.proofs.hashed_key.HashedKey.is.Goals as goal

pub returns : goal.returns
returns c = λ no same. true≢false (sym (sym no ∙ c.is_eq.ensures ∙ ap is_eq (c.compare.ensures ∙ ap (bytes_cmp c.args.self.bytes.now) (sym same) ∙ tied_itself nat_list_cmp_total c.args.self.bytes.now)))
