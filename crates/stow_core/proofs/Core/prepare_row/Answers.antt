use Rattle.std.proofs.Common.{◌≡◌, List, [], ◌∷◌, ℕ, ap, length, sym, ◌∙◌, subst}
use Rattle.stow_core.specs.Prepared.{CanGive, IsPrepared, IsPriced, after_given, gives, next_number}
use Rattle.stow_core.specs.State.{CoreState, store_of, row_at, Keeps}
use Rattle.stow_core.specs.Writes.{given_op}
use Rattle.stow_core.proofs.Answered.{error_prepared}
use Rattle.stow_core.proofs.Charges.{priced_row, told_change}
use Rattle.stow_core.proofs.Kept.{keeps_itself}
use Rattle.stow_core.proofs.Room.{one_write_fits}
use Rattle.stow_model.specs.Reply.{reply_of}
use Rattle.stow_model.specs.Store.{value_in}
use Rattle.stow_tree_model.specs.Keys.{own_key}
use Rattle.stow_core.proofs.RowLengths.{one_length}
use Rattle.stow_core.specs.RowLengths.{HaveLength}
use Rattle.std.specs.Prelude.{IfSome}
use Rattle.stow_core.proofs.Core.prepare_row.Goals as goal

pub returns-in_err-keys : goal.returns-in_err-keys
returns-in_err-keys g c =
    let old = c.args.self.now in
    error_prepared old c.only_key.new.self c.args.tenant _ c.from_residual.result c.from_residual.ensures.0 (subst (Keeps old) (sym c.only_key.ensures.same) (keeps_itself old c.requires.sound))

pub prepare_write-requires-clause-can_give : goal.prepare_write-requires-clause-can_give
prepare_write-requires-clause-can_give g c =
    let old = c.args.self.now in
    let t = c.args.tenant in
    let key = c.args.buffer.now.items in
    let op = given_op c.args.given in
    let keys : c.in_ok-keys.keys ≡ key ∷ [] = c.in_ok-keys.ensures.key in
    let give : CanGive old t (key ∷ []) op = record {
      own = c.requires.own_key;
      are_keys = (c.requires.is_key, tt);
      distinct = (tt, tt);
      short = (c.requires.short, tt);
      fit = one_write_fits (next_number old t) op key (value_in (row_at old t (own_key key))) c.requires.is_key c.requires.short;
    } in
    subst (λ (ks : List (List ℕ)). CanGive c.only_key.new.self t ks op) (sym keys) (subst (λ (s : CoreState). CanGive s t (key ∷ []) op) (sym c.in_ok-keys.ensures.same) give)

pub prepare_write-requires-clause-priced : goal.prepare_write-requires-clause-priced
prepare_write-requires-clause-priced g c =
    let old = c.args.self.now in
    let t = c.args.tenant in
    let key = c.args.buffer.now.items in
    let op = given_op c.args.given in
    let ch = c.charge_of_write-charge.result in
    let keys : c.in_ok-keys.keys ≡ key ∷ [] = c.in_ok-keys.ensures.key in
    let change = c.row_change-change.ensures in
    let told = told_change old t (own_key key) op c.row_change-change.result (change.key ∙ ap (λ (k : List ℕ). length (own_key k)) c.as_slice.ensures.value) (change.before ∙ c.requires.row) c.requires.short (λ row is. change.after row (sym change.before ∙ is)) in
    let priced : IsPriced old t ch (after_given (key ∷ []) op (store_of old t)) = priced_row old t key op ch (c.charge_of_write-charge.ensures (own_key key) op told) in
    subst (λ (ks : List (List ℕ)). IsPriced c.only_key.new.self t ch (after_given ks op (store_of c.only_key.new.self t))) (sym keys)
    (subst (λ (s : CoreState). IsPriced s t ch (after_given (key ∷ []) op (store_of s t))) (sym c.in_ok-keys.ensures.same) priced)

pub prepare_write-requires-clause-length : goal.prepare_write-requires-clause-length
prepare_write-requires-clause-length g c =
    let old = c.args.self.now in
    let t = c.args.tenant in
    let key = c.args.buffer.now.items in
    let op = given_op c.args.given in
    let keys : c.in_ok-keys.keys ≡ key ∷ [] = c.in_ok-keys.ensures.key in
    let change = c.row_change-change.ensures in
    let told = c.kept_length-length.result in
    let tells = one_length old t key op c.args.row.version c.row_change-change.result.after told c.requires.row c.requires.short change.after c.kept_length-length.ensures in
    subst (λ (ks : List (List ℕ)). IfSome told (HaveLength (after_given ks op (store_of c.only_key.new.self t)).rows (next_number c.only_key.new.self t))) (sym keys)
    (subst (λ (s : CoreState). IfSome told (HaveLength (after_given (key ∷ []) op (store_of s t)).rows (next_number s t))) (sym c.in_ok-keys.ensures.same) tells)

pub returns : goal.returns
returns g c =
    let t = c.args.tenant in
    let key = c.args.buffer.now.items in
    let keys : c.in_ok-keys.keys ≡ key ∷ [] = c.in_ok-keys.ensures.key in
    subst (λ (s : CoreState). IsPrepared s t (gives (key ∷ []) (given_op c.args.given) (reply_of c.args.reply)) c.prepare_write.new.self c.prepare_write.result) c.in_ok-keys.ensures.same
    (subst (λ (ks : List (List ℕ)). IsPrepared c.only_key.new.self t (gives ks (given_op c.args.given) (reply_of c.args.reply)) c.prepare_write.new.self c.prepare_write.result) keys c.prepare_write.ensures)
