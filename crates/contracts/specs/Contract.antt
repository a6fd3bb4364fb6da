-- A contract as the checker exports it, with what it is about; and what is to hold of it.
-- Assumes nothing.
use Rattle.std.specs.Prelude.{◌≡◌, List, [], ◌∷◌, ℕ}
use package.contract.Lifetimes.{Lfts}
use borrow.Fn.Kinds.{ParamKind, ResultKind, Out, Den, Dens, slots, slot_of, kepts, res_t, ended_of}
use denote.Triple.End.{Outs}
use denote.Exit.{Seen}
use denote.Triple.Clauses.{AtExit}

-- what is told of an answer; of that the number of a refusal, or 0, and when it is such a number alone; and an outcome, which is what is told and the
-- memory M as it is left
pub record Form (M : Type 0) : Type 1 where
  pub Told : Type 0
  pub refusal : Told → ℕ
  pub alone : ℕ → Told → Type 0
  pub Outcome : Type 0
  pub outcome : Told → M → Outcome

-- the contract itself; the form of its outcome; of the parameters what is lent, as the call begins and as it leaves it; and the definition
pub record Contract : Type 3 where
  pub lifetimes : ℕ
  pub params : List (ParamKind lifetimes)
  pub result : ResultKind lifetimes
  pub says : Out lifetimes params result
  pub Lent : Type 0
  pub form : Form Lent
  pub told : (κs : Lfts lifetimes) → (res_t result κs).Denot → form.Told
  pub lent : (κs : Lfts lifetimes) → Dens κs params → Lent
  pub left : (κs : Lfts lifetimes) → AtExit (ended_of lifetimes params result) κs → Lent
  pub defined : (κs : Lfts lifetimes) → Dens κs params → Lent → form.Outcome

-- ---- lines of the table

module _ {n : ℕ} (κs : Lfts n) where
  -- an R for each values of the parameters, one after the other, as the call begins
  abbrev pub Begun : List (ParamKind n) → Type 0 → Type 0
  Begun [] R = R
  Begun (k ∷ ps) R = Den κs k → Begun ps R

  abbrev pub begun : (ps : List (ParamKind n)) {R : Type 0} → Begun ps R → Dens κs ps → R
  begun [] f i = f
  begun (k ∷ ps) f i = begun ps (f i.0) i.1

  -- and as the call leaves them
  abbrev pub Over : List (ParamKind n) → Type 0 → Type 0
  Over [] R = R
  Over (k ∷ ps) R = Seen (((slot_of k).row κs).exit k.is.keeps) → Over ps R

  abbrev pub over : (ps : List (ParamKind n)) {R : Type 0} → Over ps R → Outs κs (slots ps) (kepts ps) → R
  over [] f e = f
  over (k ∷ ps) f e = over ps (f e.0) e.1

-- a call with lent memory: of the parameters as the call begins, what is lent, and the definition as it speaks of that; and that memory as the call
-- leaves it
abbrev pub contract_of : {M : Type 0} (f : Form M) (n : ℕ) (ps : List (ParamKind n)) (r : ResultKind n) (says : Out n ps r)
    (told : (κs : Lfts n) → (res_t r κs).Denot → f.Told) (begins : (κs : Lfts n) → Begun κs ps (M × (M → f.Outcome)))
    (ends : (κs : Lfts n) → Over κs ps M) → Contract
contract_of {M} f n ps r says told begins ends =
    record {
      lifetimes = n;
      params = ps;
      result = r;
      says = says;
      Lent = M;
      form = f;
      told = told;
      lent = λ κs i. (begun κs ps (begins κs) i).0;
      left = λ κs e. over κs ps (ends κs) e;
      defined = λ κs i. (begun κs ps (begins κs) i).1;
    }

-- one without
abbrev pub answering_alone : (f : Form (Unit {0})) (n : ℕ) (ps : List (ParamKind n)) (r : ResultKind n) (says : Out n ps r)
    (told : (κs : Lfts n) → (res_t r κs).Denot → f.Told) (begins : (κs : Lfts n) → Begun κs ps f.Outcome) → Contract
answering_alone f n ps r says told begins =
    record {
      lifetimes = n;
      params = ps;
      result = r;
      says = says;
      Lent = Unit {0};
      form = f;
      told = told;
      lent = λ κs i. tt;
      left = λ κs e. tt;
      defined = λ κs i m. begun κs ps (begins κs) i;
    }

module _ (c : Contract) where
  -- the contract is one equation: what is told and left is what the definition says of what went in, and it speaks of what the table calls lent
  abbrev pub OneEquation : Type 1
  OneEquation =
      (κs : Lfts c.lifetimes) (i : Dens κs c.params) (x : (res_t c.result κs).Denot)
      (e : AtExit (ended_of c.lifetimes c.params c.result) κs)
      → c.says κs i x e ≡ (c.form.outcome (c.told κs x) (c.left κs e) ≡ c.defined κs i (c.lent κs i))

  -- any two outcomes that it allows are equal: the answer, and all that was lent as the call leaves it
  abbrev pub Only : Type 0
  Only =
      (κs : Lfts c.lifetimes) (i : Dens κs c.params) (x y : (res_t c.result κs).Denot)
      (e f : AtExit (ended_of c.lifetimes c.params c.result) κs)
      → c.says κs i x e → c.says κs i y f → (c.told κs x ≡ c.told κs y) × (c.left κs e ≡ c.left κs f)

  -- the answer of a refusal is its number alone, and what was lent is as it came
  abbrev pub Keeps : Type 0
  Keeps =
      (κs : Lfts c.lifetimes) (i : Dens κs c.params) (x : (res_t c.result κs).Denot)
      (e : AtExit (ended_of c.lifetimes c.params c.result) κs)
      → c.says κs i x e → (c.form.refusal (c.told κs x) ≡ 0 → ⊥)
      → c.form.alone (c.form.refusal (c.told κs x)) (c.told κs x) × (c.left κs e ≡ c.lent κs i)
