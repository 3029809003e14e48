-- A leaf's messages in a buffer of their own can be merged with it.
use Rattle.std.proofs.Common.{◌≡◌, ℕ, List, map, sym, subst}
use Rattle.std.specs.Prelude.{IsSome}
use Rattle.stow_leaves.proofs.StowLeaf.Ops.{ops-in_range}
use Rattle.stow_leaves.specs.StowLeaf.Intervals.{spans}
use Rattle.stow_leaves.specs.StowLeaf.Replacements.{CanReplace}
use Rattle.stow_leaves.specs.StowMerge.Mergeable.{IsMergeable}
use Rattle.stow_leaves.specs.StowMerge.Pages.{HaveShortValues}
use Rattle.stow_leaves.specs.StowMessage.Rising.{in_range, AreNew}
use Rattle.stow_tree_model.specs.Agreement.{TenantPins}
use Rattle.stow_tree_model.specs.Merged.{row_message, merged}
use Rattle.stow_tree_model.specs.Messages.{ops_in}
use Rattle.stow_tree_model.specs.TreeMessage.{TreeMessage}
use Rattle.stow_tree_model.specs.Version.{Version}
use Rattle.stow_node.specs.Nodes.{AreNewer}
use Rattle.stow_node.proofs.Cut.{some_cond}
use Rattle.stow_node.proofs.Newer.{all_new_to, are_new}

pub mergeable : (low high : List ℕ) (rows page : List Version) (ms batch : List TreeMessage) (pins copied : TenantPins) (target : ℕ) → CanReplace (low, rows) high ms pins target → AreNewer ms (map row_message rows) → page ≡ rows → batch ≡ in_range low high ms → ((t : ℕ) → copied t ≡ pins t) → IsMergeable page batch copied
mergeable low high rows page ms batch pins copied target can newer same is all = record {
  are_apart = subst (λ (vs : List Version). AreNew batch (map row_message vs)) (sym same) (subst (λ bs. AreNew bs (map row_message rows)) (sym is)
      (are_new (in_range low high ms) (map row_message rows) (all_new_to (in_range low high ms) (map row_message rows) (record {
        above = λ key n k u l. newer.above key n k (some_cond (spans low high key) (ops_in ms key n) (subst IsSome (ops-in_range low high ms key n) u)) l;
      }))));
  are_short = subst HaveShortValues (λ j. merged (sym same j) (sym is j) (λ t. sym (all t) j)) can.short;
}
