-- What words are, from their first word.
use Rattle.std.proofs.Common.{◌≡◌, ℕ, true, false, List, [], ◌∷◌, ap, ◌∙◌}
use lib.Chars.{codes}
use Rattle.std.proofs.lemmas.Bool.{cond-true, cond-false}
use Rattle.stow_model.specs.declared.refusal.Refusal.TheVariants as refusal
use Rattle.stow_model.specs.Command.{is_named, Refused, reading, reading_among, commands, ForStore, kind_of, login_kind, quit_kind}

-- ---- to a connection

pub kind_auth : (words rest : List (List ℕ)) (n : List ℕ) → words ≡ n ∷ rest
    → is_named n (codes "auth") ≡ true → kind_of words ≡ login_kind rest
unfolding kind_of
kind_auth words rest n e auth = ap kind_of e ∙ cond-true (is_named n (codes "auth")) _ _ auth

pub kind_quit : (words rest : List (List ℕ)) (n : List ℕ) → words ≡ n ∷ rest
    → is_named n (codes "auth") ≡ false → is_named n (codes "quit") ≡ true → kind_of words ≡ quit_kind rest
unfolding kind_of
kind_quit words rest n e auth quit =
    ap kind_of e ∙ cond-false (is_named n (codes "auth")) _ _ auth ∙ cond-true (is_named n (codes "quit")) _ _ quit

pub kind_other : (words rest : List (List ℕ)) (n : List ℕ) → words ≡ n ∷ rest
    → is_named n (codes "auth") ≡ false → is_named n (codes "quit") ≡ false → kind_of words ≡ ForStore
unfolding kind_of
kind_other words rest n e auth quit =
    ap kind_of e ∙ cond-false (is_named n (codes "auth")) _ _ auth ∙ cond-false (is_named n (codes "quit")) _ _ quit

pub kind_none : (words : List (List ℕ)) → words ≡ [] → kind_of words ≡ ForStore
unfolding kind_of
kind_none words e = ap kind_of e

-- ---- to a store

pub reads_named : (words rest : List (List ℕ)) (n : List ℕ) → words ≡ n ∷ rest → reading words ≡ reading_among commands refusal.UnknownCommand n rest
unfolding reading
reads_named words rest n e = ap reading e

pub reads_none : (words : List (List ℕ)) → words ≡ [] → reading words ≡ Refused refusal.UnknownCommand
unfolding reading
reads_none words e = ap reading e

-- what words are to a connection
pub ruleset kinds = (kind_auth, kind_quit, kind_other, kind_none)

-- what words are to a store
pub ruleset readings = (reads_named, reads_none)
