-- A worker's record from step to step: what it keeps of its arguments, and the phase after a help.
use Rattle.std.specs.Prelude.{ℕ, ◌+◌, ◌<◌, Bool, true, false, cond, ◌≡◌, refl, eqb}
use Rattle.std.proofs.Common.{sym, ◌∙◌, subst, eq-eqb}
use Rattle.definitions.specs.Cells.{cleared}
use Rattle.cells.specs.Update.{Proper, record_proper}
use Rattle.history.specs.Machine.{Item, Then, then_39, then_43, then_48, then_52, then_34, then_total_34, helped_item}
use Rattle.history.specs.Machine.{after as phase_after}
use Rattle.reached.specs.Parts.{Local}
use Rattle.reached.specs.Image.{help_number, phase_number, ChangeKept, ReadKept, TotalKept, ThenKept, Kept}

pub self : (w : ℕ) → eqb w w ≡ true
self w = eq-eqb w w refl

pub cleared_proper : (p m n w : ℕ) → w < p → Proper p m n (cleared w)
cleared_proper p m n w l = record_proper p m n w 0 0 0 0 0 0 0 l

-- Two records with the same arguments.
pub record SameArguments (l later : Local) : Type 0 where
  pub item_same : later.item ≡ l.item
  pub old_same : later.old ≡ l.old
  pub new_same : later.new ≡ l.new
  pub handle_same : later.handle ≡ l.handle
  pub project_same : later.project ≡ l.project
  pub noted_same : later.noted ≡ l.noted
  pub sum_same : later.sum ≡ l.sum

pub change_stays : {l later : Local} → SameArguments l later → (i x y : ℕ) → ChangeKept l i x y → ChangeKept later i x y
change_stays a i x y k = record { item_is = a.item_same ∙ k.item_is; old_is = a.old_same ∙ k.old_is; new_is = a.new_same ∙ k.new_is }

pub read_stays : {l later : Local} → SameArguments l later → (i h : ℕ) → ReadKept l i h → ReadKept later i h
read_stays a i h k = record { item_is = a.item_same ∙ k.item_is; handle_is = a.handle_same ∙ k.handle_is }

pub total_stays : {l later : Local} → SameArguments l later → (q h k i u : ℕ) → TotalKept l q h k i u → TotalKept later q h k i u
total_stays a q h k i u z =
    record {
      project_is = a.project_same ∙ z.project_is;
      handle_is = a.handle_same ∙ z.handle_is;
      noted_are = a.noted_same ∙ z.noted_are;
      item_is = a.item_same ∙ z.item_is;
      sum_is = a.sum_same ∙ z.sum_is;
    }

pub then_stays : {l later : Local} → SameArguments l later → (c : Then) → ThenKept l c → ThenKept later c
then_stays a (then_39 i g) k = a.item_same ∙ k
then_stays a (then_43 i x y g) k = change_stays a i x y k
then_stays a (then_48 i x y) k = change_stays a i x y k
then_stays a (then_52 i x y g) k = change_stays a i x y k
then_stays a (then_34 i h g) k = read_stays a i h k
then_stays a (then_total_34 q h n i u g) k = total_stays a q h n i u k

-- After a help: the fourth phase, with what it kept.
pub after_number : (c : Then) (j : ℕ) → phase_number (phase_after c j) ≡ help_number c + 3
unfolding phase_after
after_number (then_39 i g) j = refl
after_number (then_43 i x y g) j = refl
after_number (then_48 i x y) j = refl
after_number (then_52 i x y g) j = refl
after_number (then_34 i h g) j = refl
after_number (then_total_34 q h n i u g) j = refl

pub after_kept : (its : ℕ → Item) (l : Local) (c : Then) (j : ℕ) → ThenKept l c → l.node ≡ (its (helped_item c)).node j → Kept its l (phase_after c j)
unfolding phase_after
after_kept its l (then_39 i g) j k e = (k, e)
after_kept its l (then_43 i x y g) j k e = (k, e)
after_kept its l (then_48 i x y) j k e = k
after_kept its l (then_52 i x y g) j k e = k
after_kept its l (then_34 i h g) j k e = (k, e)
after_kept its l (then_total_34 q h n i u g) j k e = (k, e)

-- Two choices by equal tests.
pub both : {A B : Type 0} (R : A → B → Type 0) (c d : Bool) {a a' : A} {b b' : B} → d ≡ c → (c ≡ true → R a b) → (c ≡ false → R a' b')
    → R (cond c a a') (cond d b b')
both R c d {a} {a'} {b} {b'} e f g = subst (λ (x : Bool). R (cond c a a') (cond x b b')) (sym e) (at c f g)
  where
    at : (c : Bool) → (c ≡ true → R a b) → (c ≡ false → R a' b') → R (cond c a a') (cond c b b')
    at true f g = f refl
    at false f g = g refl

-- A record that goes on: its phase, its steps, and what its lines keep are new; its arguments stay.
abbrev pub goes_with : Local → (p n y z c : ℕ) → Local
goes_with l p n y z c =
    record {
      phase = p;
      steps = n;
      item = l.item;
      old = l.old;
      new = l.new;
      handle = l.handle;
      project = l.project;
      noted = l.noted;
      node = y;
      new_node = z;
      seen = c;
      sum = l.sum;
    }

pub same_arguments : (l : Local) (p n y z c : ℕ) → SameArguments l (goes_with l p n y z c)
same_arguments l p n y z c = record {
  item_same = refl;
  old_same = refl;
  new_same = refl;
  handle_same = refl;
  project_same = refl;
  noted_same = refl;
  sum_same = refl;
}
