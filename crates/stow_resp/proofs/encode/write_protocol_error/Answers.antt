use Rattle.std.proofs.Common.{[], ◌∷◌, codes}
use Rattle.stow_model.specs.Texts.{fault_text}
use Rattle.stow_resp.proofs.Lists.{three_pieces}
use Rattle.stow_resp.proofs.encode.write_protocol_error.Goals as goal

pub returns-clause-ok : goal.returns-clause-ok
returns-clause-ok g c =
    three_pieces c.args.out.now.items (codes "-ERR Protocol error: ") (fault_text c.args.fault) (13 ∷ 10 ∷ []) c.extend_from_slice.new.self.items c.extend_from_slice-2.new.self.items c.extend_from_slice-3.new.self.items c.fault_text.result.now
    c.in_ok-extend_from_slice.ensures.items c.fault_text.ensures c.in_ok-extend_from_slice-2.ensures.items c.in_ok-extend_from_slice-3.ensures.items
