use Rattle.std.proofs.Common.{◌≡◌, ◌+◌, ◌-◌, ◌++◌, ◌∷◌, suc, take, drop, sym, ap, ◌∙◌, arith}
use Rattle.std.proofs.lemmas.List.{take-append-drop}
use Rattle.stow_leaf.specs.StowMessage.MessageBuf.{message_list}
use Rattle.stow_tree_model.specs.TreeMessage.{message_of}
use Rattle.stow_superseded.proofs.HiddenOnes.{first_of_rest}
use Rattle.stow_superseded.proofs.hidden.drop_hidden.Goals as goal

pub returns-clause-dropped : goal.returns-clause-dropped
returns-clause-dropped g c = λ done.
    let ms = c.args.buffer.now.messages in let n = c.args.place.count in
    let two = c.in-Some.ensures.two in
    let m = message_of c.in-Some.message in let last = message_of c.in-Some.last in
    let at : n - 1 ≡ suc (n - 2) = omega (arith, two.0) in
    let past : suc (n - 1) ≡ n = omega (arith, two.0) in
    let next : n - 2 + 1 ≡ suc (n - 2) = omega arith in
    let behind : drop (suc (n - 2)) ms ≡ last ∷ drop n ms = ap (λ k. drop k ms) (sym at) ∙ first_of_rest ms (n - 1) last two.2 ∙ ap (λ k. last ∷ drop k ms) past in
    record {
      before = take (n - 2) ms;
      hidden = m;
      next = last;
      after = drop n ms;
      were = sym (take-append-drop (n - 2) ms) ∙ ap (λ l. take (n - 2) ms ++ l) (first_of_rest ms (n - 2) m two.1 ∙ ap (λ l. m ∷ l) behind);
      is_hidden = sym c.hides.ensures ∙ c.if-not-hides.false;
      are = c.remove_young.ensures.gone done
          ∙ ap (λ k. message_list (take (n - 2) ms ++ drop k ms) (c.args.buffer.now.used - 4) c.args.buffer.now.capacity) next
          ∙ ap (λ l. message_list (take (n - 2) ms ++ l) (c.args.buffer.now.used - 4) c.args.buffer.now.capacity) behind;
    }
