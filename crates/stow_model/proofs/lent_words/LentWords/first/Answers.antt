use Rattle.std.proofs.Common.{sym, ◌∙◌}
use Rattle.std.proofs.lemmas.List.{take-map}
use Rattle.stow_model.specs.Spans.{word_at}
use Rattle.stow_model.proofs.lent_words.LentWords.first.Goals as goal

pub returns : goal.returns
returns c =
    let words = c.args.self in
    c.new.ensures ∙ sym (take-map (word_at words.block.now) c.args.count words.spans.now)
