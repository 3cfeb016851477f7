-- The lines of a script, as bytes.
-- `spaced words`: the words of a line; `founder_bytes m`: the first line; `line_bytes c`: any other;
-- `MemberInRange m`, `InRange c`: the numbers of a member and of a commit's members are of 16 bits;
-- `ReadsFounder line r`, `ReadsPair text r`, `ReadsLine line r`: what a reader answers.
-- Assumes nothing.
use Rattle.std.specs.Prelude.{◌≡◌, ℕ, ◌<◌, List, [], ◌∷◌, ◌++◌, codes, Option, MatchOption, ◌≢◌}
use Rattle.commits.specs.declared.change.Change.{Change}
use Rattle.commits.specs.declared.change.Change.TheVariants.{Renew, Remove, Add}
use Rattle.commits.specs.declared.change.Commit.{Commit}
use Rattle.ratchet_tree.specs.declared.member.MemberId.{MemberId}
use Rattle.scripts.specs.Decimal.{decimal}

-- words one space apart
abbrev pub spaced : List (List ℕ) → List ℕ
spaced [] = []
spaced (word ∷ []) = word
spaced (word ∷ (next ∷ more)) = word ++ 32 ∷ spaced (next ∷ more)

-- the first line: the founder's number alone
abbrev pub founder_bytes : MemberId → List ℕ
founder_bytes m = decimal m.0

-- the words of a line: what is asked, the committer m, and the other member, if any
abbrev pub words_of : ℕ → Change → List (List ℕ)
words_of m Renew = codes "renew" ∷ decimal m ∷ []
words_of m (Remove other) = codes "remove" ∷ decimal m ∷ decimal other.0 ∷ []
words_of m (Add other) = codes "add" ∷ decimal m ∷ decimal other.0 ∷ []

-- the line of a commit
abbrev pub line_bytes : Commit → List ℕ
line_bytes c = spaced (words_of c.committer.0 c.change)

-- a member's number is of 16 bits
abbrev pub MemberInRange : MemberId → Type 0
MemberInRange m = m.0 < 65536

-- so is that of the other member of a change, if any
abbrev pub ChangeInRange : Change → Type 0
ChangeInRange Renew = Unit {0}
ChangeInRange (Remove other) = MemberInRange other
ChangeInRange (Add other) = MemberInRange other

-- so are those of a commit's members
pub record InRange (c : Commit) : Type 0 where
  pub committer : MemberInRange c.committer
  pub other : ChangeInRange c.change

-- the founder whose line this is; nothing where it is nobody's
abbrev pub ReadsFounder : List ℕ → Option MemberId → Type 0
ReadsFounder line r = MatchOption r ((m : MemberId) → MemberInRange m → line ≢ founder_bytes m) (λ m. (line ≡ founder_bytes m) × MemberInRange m)

-- the two members whose numbers these are, one space apart; nothing where they are none's
abbrev pub ReadsPair : List ℕ → Option (MemberId × MemberId) → Type 0
ReadsPair text r =
    MatchOption r
    ((m n : ℕ) → m < 65536 → n < 65536 → text ≢ spaced (decimal m ∷ decimal n ∷ []))
    (λ p. (text ≡ spaced (decimal p.0.0 ∷ decimal p.1.0 ∷ [])) × MemberInRange p.0 × MemberInRange p.1)

-- the commit whose line this is; nothing where it is none's
abbrev pub ReadsLine : List ℕ → Option Commit → Type 0
ReadsLine line r = MatchOption r ((c : Commit) → InRange c → line ≢ line_bytes c) (λ c. (line ≡ line_bytes c) × InRange c)
