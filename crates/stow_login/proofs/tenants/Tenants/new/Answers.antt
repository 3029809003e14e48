use Rattle.std.proofs.Common.{ap, sym, ◌∙◌, map, length, subst, ◌<◌, lit<}
use Rattle.stow_login.specs.Entries.{entry_of, index_named}
use Rattle.stow_login.specs.Names.{index_in}
use Rattle.stow_login.proofs.Named.{nobody_named}
use Rattle.stow_login.proofs.tenants.Tenants.new.Goals as goal

pub invariant_of-result : goal.invariant_of-result
invariant_of-result g c = record {
  few = subst (λ ts. length (map entry_of ts) < 65536) (sym c.new.ensures.items) (lit< tt);
  named = λ name. ap (λ names. index_in names name) c.new-2.ensures ∙ sym (ap (λ ts. index_named (map entry_of ts) name) c.new.ensures.items ∙ nobody_named name);
}
