-- The first word of a commit's line.
-- `word_of v`: the word; `ReadsVerb word r`: what a reader answers.
-- Assumes nothing.
use Rattle.std.specs.Prelude.{◌≡◌, List, ℕ, codes, Option, MatchOption, ◌≢◌}
use Rattle.scripts.specs.declared.line.Verb.{Verb}
use Rattle.scripts.specs.declared.line.Verb.TheVariants.{Renew, Remove, Add}

-- the word that asks for it
abbrev pub word_of : Verb → List ℕ
word_of Renew = codes "renew"
word_of Remove = codes "remove"
word_of Add = codes "add"

-- what the word asks for; nothing where it is no word for it
abbrev pub ReadsVerb : List ℕ → Option Verb → Type 0
ReadsVerb word r = MatchOption r ((v : Verb) → word ≢ word_of v) (λ v. word ≡ word_of v)
