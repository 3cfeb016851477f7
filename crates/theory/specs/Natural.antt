-- Trees whose keys are mapped, and what it means that the rules ask nothing of a key: each operation commutes with the map.
-- `map_leaf`, `map_parent`, `map_tree`, `map_target`, `map_laid`; `Natural`: the equations, for one map; `Naturality`: they hold.
-- Assumes nothing.
use Rattle.std.specs.Prelude.{◌≡◌, ℕ, List, map}
use Rattle.theory.specs.Secrets.{Secret}
use Rattle.theory.specs.Tree.{Tree, leaf, node, Leaf, blank_leaf, occupied, Parent, blank_parent, keyed, seated, full, members, leaves, height, is_level, position, leaf_key, leaf_keys, resolution, blank_tree, grown, added, removed}
use Rattle.theory.specs.Path.{Target, Laid, laid}
use Rattle.theory.specs.Held.{held, held_at}
use Rattle.theory.specs.Wellformed.{well_formed}
use Rattle.theory.specs.Group.{Change, Commit, refusal, readied, laid_by}

abbrev pub map_leaf : {A B : Type 0} → (A → B) → Leaf A → Leaf B
map_leaf f blank_leaf = blank_leaf
map_leaf f (occupied m k) = occupied m (f k)

abbrev pub map_parent : {A B : Type 0} → (A → B) → Parent A → Parent B
map_parent f blank_parent = blank_parent
map_parent f (keyed k un) = keyed (f k) un

-- the same tree with every key mapped
unfoldable pub map_tree : {A B : Type 0} → (A → B) → Tree A → Tree B
map_tree f (leaf x) = leaf (map_leaf f x)
map_tree f (node p l r) = node (map_parent f p) (map_tree f l) (map_tree f r)

abbrev pub map_target : {A B : Type 0} → (A → B) → Target A → Target B
map_target f t = record { key = f t.key; level = t.level }

abbrev pub map_laid : {A B : Type 0} → (A → B) → Laid A → Laid B
map_laid f x = record { tree = map_tree f x.tree; levels = x.levels; targets = map (map_target f) x.targets }

-- every operation commutes with f
pub record Natural {A B : Type 0} (f : A → B) : Type 0 where
  -- what is asked of a tree without looking at keys stays the same
  pub seated : (m : ℕ) (t : Tree A) → seated m (map_tree f t) ≡ seated m t
  pub full : (t : Tree A) → full (map_tree f t) ≡ full t
  pub members : (t : Tree A) → members (map_tree f t) ≡ members t
  pub leaves : (t : Tree A) → leaves (map_tree f t) ≡ leaves t
  pub height : (t : Tree A) → height (map_tree f t) ≡ height t
  pub is_level : (d : ℕ) (t : Tree A) → is_level d (map_tree f t) ≡ is_level d t
  pub position : (m : ℕ) (t : Tree A) → position m (map_tree f t) ≡ position m t
  pub refusal : (e : ℕ) (c : Commit) (t : Tree A) → refusal e c (map_tree f t) ≡ refusal e c t
  pub well_formed : (t : Tree A) → well_formed (map_tree f t) ≡ well_formed t
  -- keys that are looked up are mapped
  pub leaf_key : (m : ℕ) (t : Tree A) → leaf_key m (map_tree f t) ≡ map f (leaf_key m t)
  pub leaf_keys : (ms : List ℕ) (t : Tree A) → leaf_keys ms (map_tree f t) ≡ map f (leaf_keys ms t)
  pub resolution : (t : Tree A) → resolution (map_tree f t) ≡ map f (resolution t)
  pub held : (m : ℕ) (t : Tree A) → held m (map_tree f t) ≡ map f (held m t)
  pub held_at : (m h : ℕ) (t : Tree A) → held_at m h (map_tree f t) ≡ map f (held_at m h t)
  -- a changed tree is mapped, with the keys that come in
  pub blank_tree : (t : Tree A) → blank_tree (map_tree f t) ≡ map_tree f (blank_tree t)
  pub grown : (t : Tree A) → grown (map_tree f t) ≡ map_tree f (grown t)
  pub added : (m : ℕ) (k : A) (t : Tree A) → added m (f k) (map_tree f t) ≡ map_tree f (added m k t)
  pub removed : (m : ℕ) (t : Tree A) → removed m (map_tree f t) ≡ map_tree f (removed m t)
  pub readied : (c : Change) (fresh : A) (t : Tree A) → readied c (f fresh) (map_tree f t) ≡ map_tree f (readied c fresh t)
  pub laid :
      (m : ℕ) (own : A) (keys : ℕ → A) (t : Tree A) →
      laid m (f own) (λ i. f (keys i)) (map_tree f t) ≡ map_laid f (laid m own keys t)
  pub laid_by :
      (c : Commit) (fresh own : A) (keys : ℕ → A) (t : Tree A) →
      laid_by c (f fresh) (f own) (λ i. f (keys i)) (map_tree f t) ≡ map_laid f (laid_by c fresh own keys t)

-- the rules ask nothing of a key: whatever a public half may be, the rules at halves are the image of the rules at secrets
abbrev pub Naturality : Type 0
Naturality = (f : Secret → List ℕ) → Natural f
