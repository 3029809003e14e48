use Rattle.stow_resp.proofs.Streams.{cuts_do_not_matter_lem}
use Rattle.stow_resp.proofs.laws.cuts_do_not_matter.Goals as goal

pub returns : goal.returns
returns c = cuts_do_not_matter_lem
