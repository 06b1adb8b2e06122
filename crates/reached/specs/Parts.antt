-- The cells in two parts: the memory that all workers share, and what each worker's record keeps.
use Rattle.std.specs.Prelude.{ℕ, cond, ◌≢◌, ◌≡◌, refl, eqb}
use Rattle.history.specs.Tools.{by_eq}
use Rattle.definitions.specs.Cells.{Cells, counter, items, used, given_back, phase, steps, item, old, new, handle, project, noted, node, new_node, seen, head, birth, size, value, older, stamp}
use Rattle.definitions.specs.Damage.{sum}

pub record Shared : Type 0 where
  pub counter : ℕ
  pub items : ℕ
  pub used : ℕ
  pub given_back : ℕ
  pub head : ℕ → ℕ
  pub birth : ℕ → ℕ
  pub size : ℕ → ℕ
  pub value : ℕ → ℕ
  pub older : ℕ → ℕ
  pub stamp : ℕ → ℕ

abbrev pub shared_of : Cells → Shared
shared_of f = record {
  counter = f counter;
  items = f items;
  used = f used;
  given_back = f given_back;
  head = λ i. f (head i);
  birth = λ i. f (birth i);
  size = λ i. f (size i);
  value = λ n. f (value n);
  older = λ n. f (older n);
  stamp = λ n. f (stamp n);
}

pub record Local : Type 0 where
  pub phase : ℕ
  pub steps : ℕ
  pub item : ℕ
  pub old : ℕ
  pub new : ℕ
  pub handle : ℕ
  pub project : ℕ
  pub noted : ℕ
  pub node : ℕ
  pub new_node : ℕ
  pub seen : ℕ
  pub sum : ℕ

abbrev pub local_of : Cells → ℕ → Local
local_of f w = record {
  phase = f (phase w);
  steps = f (steps w);
  item = f (item w);
  old = f (old w);
  new = f (new w);
  handle = f (handle w);
  project = f (project w);
  noted = f (noted w);
  node = f (node w);
  new_node = f (new_node w);
  seen = f (seen w);
  sum = sum f w;
}

-- g, but v at k
abbrev pub put_at : (ℕ → ℕ) → ℕ → ℕ → ℕ → ℕ
put_at g k v x = cond (eqb k x) v (g x)

-- P holds of a value of a function changed at one place
pub put_at_all : (P : ℕ → Type 0) (g : ℕ → ℕ) (k v x : ℕ) → (k ≡ x → P v) → (k ≢ x → P (g x)) → P (put_at g k v x)
put_at_all P g k v x p q = by_eq P k x p q

pub put_at_same : (g : ℕ → ℕ) (k v x : ℕ) → k ≡ x → put_at g k v x ≡ v
put_at_same g k v x e = put_at_all (λ (y : ℕ). y ≡ v) g k v x (λ p. refl) (λ q. absurd (q e))

pub put_at_other : (g : ℕ → ℕ) (k v x : ℕ) → k ≢ x → put_at g k v x ≡ g x
put_at_other g k v x e = put_at_all (λ (y : ℕ). y ≡ g x) g k v x (λ p. absurd (e p)) (λ q. refl)
