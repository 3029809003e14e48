use Rattle.stow_shared.proofs.Legal.{book_new}
use Rattle.stow_shared.proofs.book.Book.new.Goals as goal

pub invariant_of-result : goal.invariant_of-result
invariant_of-result g c = rw c.new.ensures.items (book_new _ c.args.core c.requires)
