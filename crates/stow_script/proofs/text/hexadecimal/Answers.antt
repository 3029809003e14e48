use Rattle.std.proofs.Common.{◌≡◌, ◌++◌, refl, take-append-drop}
use Rattle.stow_script.proofs.Texts.{too_short, no_digits, refused}
use Rattle.stow_script.proofs.text.hexadecimal.Goals as goal

pub returns-in_err-digits-clause-front : goal.returns-in_err-digits-clause-front
returns-in_err-digits-clause-front c = rw c.from_residual.ensures (too_short c.args.text.now c.in_err-digits.ensures.cases)

pub returns-in_err-ok-clause-front : goal.returns-in_err-ok-clause-front
returns-in_err-ok-clause-front c =
    let cut = c.in_ok-digits.ensures.cases in
    let text = c.args.text.now in
    let parts : text ≡ c.in_ok-digits.digits.now ++ c.in_ok-digits.rest.now = rw (cut.1, cut.2, take-append-drop 2 text) refl in
    rw c.from_residual-in_err-ok.ensures
    (no_digits text c.in_ok-digits.digits.now c.in_ok-digits.rest.now cut.3 parts
    (refused c.in_ok-digits.digits.now c.decode_to_slice.new.out c.decode_to_slice.result cut.3 c.decode_to_slice.ensures.value c.in_err-ok.ensures.value))
