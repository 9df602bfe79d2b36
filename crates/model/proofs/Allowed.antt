-- What an instruction does, it does by the capabilities in the registers: each word that it moves comes from a register, narrowed or as it was, or
-- through a capability that reads; each that it writes goes through a capability that writes.
use Rattle.std.proofs.Common.{◌≡◌, ℕ, Bool, true, false, cond, T, List, ℤ, pos, negsuc, ◌+ℤ◌, ◌-ℤ◌, Some, None, Option, refl, subst}
use Rattle.words.specs.declared.permission.Permission.{Permission}
use Rattle.words.specs.declared.locality.Locality.{Locality}
use Rattle.words.specs.Permissions.{reads, writes, stores_local}
use Rattle.words.specs.Word.{Cap, Word, integer, capability, at, Covers, is_local, is_zero}
use Rattle.instructions.specs.declared.instruction.Operand.{Operand}
use Rattle.instructions.specs.declared.instruction.Operand.TheVariants.{Register, Constant}
use Rattle.instructions.specs.declared.instruction.Instruction.{Instruction}
use Rattle.instructions.specs.declared.instruction.Instruction.TheVariants.{Fail, Halt, Jmp, Jnz, Move, Load, Store, Plus, Minus, Lt, Lea, Restrict, Subseg, IsPtr, GetP, GetL, GetB, GetE, GetA, Quot}
use Rattle.words.specs.Refusals.{refusal_number}
use Rattle.model.specs.declared.fault.Fault.{Fault}
use Rattle.model.specs.declared.fault.Fault.TheVariants.{NotExecutable, NoInstruction, WrongKind, NotPermitted, NotCovered, NoCell, LocalNotStorable, OutOfRange, NotBelow, ZeroDivisor, OrderedFail, CannotAdvance, UnknownPair}
use Rattle.model.specs.Machine.{Machine, Effect, put, read, write, pass, jump, halting, faulting}
use Rattle.model.specs.Numbers.{quotient}
use Rattle.model.specs.Checks.{check, with_capability, with_integer, with_integers, with_address, with_code, with_pair}
use Rattle.model.specs.Effects.{value, put_integer, put_natural, entered, testing, effect}
use Rattle.model.specs.Step.{instruction_in, obeyed, fetched, request}
use Rattle.model.specs.Authority.{NoMore}
use Rattle.model.proofs.Rows.{no_integer, same_capability, implied, covered}
use Rattle.model.proofs.Narrowed.{no_more_refl, narrowed_cursor, narrowed_rights, narrowed_bounds, narrowed_entry}

-- a register has a capability that gives all that c does
pub record Origin (r : List Word) (c : Cap) : Type 0 where
  pub number : ℕ
  pub source : Cap
  pub found : at r number ≡ capability source
  pub no_more : NoMore c source

-- the capability in a word, if it is one, comes from a register
abbrev pub Made : List Word → Word → Type 0
Made r w = (c : Cap) → w ≡ capability c → Origin r c

-- the capability in a word, if it is one, stands in a register as it is
abbrev pub Carried : List Word → Word → Type 0
Carried r w = (c : Cap) → w ≡ capability c → (i : ℕ) × (at r i ≡ capability c)

-- the fault of a missing cell carries the refusal 1
abbrev pub Proper : Fault → Type 0
Proper NotExecutable = Unit {0}
Proper NoInstruction = Unit {0}
Proper WrongKind = Unit {0}
Proper NotPermitted = Unit {0}
Proper NotCovered = Unit {0}
Proper (NoCell refusal) = refusal_number refusal ≡ 1
Proper LocalNotStorable = Unit {0}
Proper OutOfRange = Unit {0}
Proper NotBelow = Unit {0}
Proper ZeroDivisor = Unit {0}
Proper OrderedFail = Unit {0}
Proper CannotAdvance = Unit {0}
Proper UnknownPair = Unit {0}

-- what an instruction may do
pub data Allowed (r : List Word) : Effect → Type 0 where
  puts : {d : ℕ} {w : Word} → Made r w → Allowed r (put d w)
  reads_through : {d a : ℕ} {c : Cap} (i : ℕ) → at r i ≡ capability c → T (reads c.permission) → Covers c a → Allowed r (read d a)
  writes_through : {a : ℕ} {w : Word} {c : Cap} (i : ℕ) → at r i ≡ capability c → T (writes c.permission) → Covers c a → (T (is_local w) → T (stores_local c.permission)) → Carried r w → Allowed r (write a w)
  passes : Allowed r pass
  jumps : {w : Word} → Made r w → Allowed r (jump w)
  stops : Allowed r halting
  stops_by : {f : Fault} → Proper f → Allowed r (faulting f)

module _ (r : List Word) where
  made_integer : (z : ℤ) → Made r (integer z)
  made_integer z c e = no_integer e

  made_register : (i : ℕ) → Made r (at r i)
  made_register i c e = record { number = i; source = c; found = e; no_more = no_more_refl }

  made_value : (a : Operand) → Made r (value r a)
  made_value (Register i) = made_register i
  made_value (Constant z) = made_integer z

  carried_value : (a : Operand) → Carried r (value r a)
  carried_value (Register i) = λ c e. (i, e)
  carried_value (Constant z) = λ c e. no_integer e

  made_narrowed : (i : ℕ) (c d : Cap) → at r i ≡ capability c → NoMore d c → Made r (capability d)
  made_narrowed i c d found n c' e = record { number = i; source = c; found = found; no_more = subst (λ (x : Cap). NoMore x c) (same_capability e) n }

  made_entered : (i : ℕ) (w : Word) → at r i ≡ w → Made r (entered w)
  made_entered i (integer z) found = made_integer z
  made_entered i (capability c) found = made_narrowed i c _ found (narrowed_entry c)

  allowed_check : (b : Bool) (f : Fault) (e : Effect) → Proper f → (T b → Allowed r e) → Allowed r (check b f e)
  unfolding check
  allowed_check true f e proper k = k tt
  allowed_check false f e proper k = stops_by proper

  allowed_capability : (w : Word) (rest : Cap → Effect) → ((c : Cap) → w ≡ capability c → Allowed r (rest c)) → Allowed r (with_capability w rest)
  unfolding with_capability
  allowed_capability (integer z) rest k = stops_by tt
  allowed_capability (capability c) rest k = k c refl

  allowed_integer : (w : Word) (rest : ℤ → Effect) → ((z : ℤ) → Allowed r (rest z)) → Allowed r (with_integer w rest)
  unfolding with_integer
  allowed_integer (integer z) rest k = k z
  allowed_integer (capability c) rest k = stops_by tt

  allowed_address : (z : ℤ) (rest : ℕ → Effect) → ((n : ℕ) → Allowed r (rest n)) → Allowed r (with_address z rest)
  unfolding with_address
  allowed_address (pos n) rest k = allowed_check _ _ _ tt (λ t. k n)
  allowed_address (negsuc n) rest k = stops_by tt

  allowed_code : {A : Type 0} (o : Option A) (rest : A → Effect) → ((x : A) → Allowed r (rest x)) → Allowed r (with_code o rest)
  unfolding with_code
  allowed_code None rest k = stops_by tt
  allowed_code (Some x) rest k = k x

  allowed_pair : (z : ℤ) (rest : Permission → Locality → Effect) → ((p : Permission) (l : Locality) → Allowed r (rest p l)) → Allowed r (with_pair z rest)
  unfolding with_pair
  allowed_pair (pos n) rest k = allowed_code _ _ (λ p. allowed_code _ _ (λ l. k p l))
  allowed_pair (negsuc n) rest k = stops_by tt

  allowed_natural : (d n : ℕ) → Allowed r (put_natural d n)
  allowed_natural d n = puts (made_integer (pos n))

  allowed_number : (d : ℕ) (z : ℤ) → Allowed r (put_integer d z)
  allowed_number d z = allowed_check _ _ _ tt (λ t. puts (made_integer z))

  allowed_arithmetic : (a b : Word) (rest : ℤ → ℤ → Effect) → ((x y : ℤ) → Allowed r (rest x y)) → Allowed r (with_integers a b rest)
  allowed_arithmetic a b rest k = allowed_integer a _ (λ x. allowed_integer b _ (λ y. k x y))

  allowed_either : (b : Bool) (e₁ e₂ : Effect) → Allowed r e₁ → Allowed r e₂ → Allowed r (cond b e₁ e₂)
  allowed_either true e₁ e₂ p q = p
  allowed_either false e₁ e₂ p q = q

  allowed_testing : (d : ℕ) (w : Word) → Allowed r (testing d w)
  allowed_testing d (integer z) = allowed_natural d 0
  allowed_testing d (capability c) = allowed_natural d 1

  pub effect_allowed : (i : Instruction) → Allowed r (effect r i)
  unfolding effect
  effect_allowed Fail = stops_by tt
  effect_allowed Halt = stops
  effect_allowed (Jmp d) = jumps (made_entered d (at r d) refl)
  effect_allowed (Jnz d a) = allowed_either (is_zero (value r a)) pass (jump (entered (at r d))) passes (jumps (made_entered d (at r d) refl))
  effect_allowed (Move d a) = puts (made_value a)
  effect_allowed (Load d a) =
      allowed_capability _ _ (λ c found.
      allowed_check _ _ _ tt (λ can.
      allowed_check _ _ _ tt (λ within.
      reads_through a found can (covered c c.cursor within))))
  effect_allowed (Store d a) =
      allowed_capability _ _ (λ c found.
      allowed_check _ _ _ tt (λ can.
      allowed_check _ _ _ tt (λ within.
      allowed_check _ _ _ tt (λ storable.
      writes_through d found can (covered c c.cursor within) (implied (is_local (value r a)) (stores_local c.permission) storable) (carried_value a)))))
  effect_allowed (Plus d a b) = allowed_arithmetic _ _ _ (λ x y. allowed_number d (x +ℤ y))
  effect_allowed (Minus d a b) = allowed_arithmetic _ _ _ (λ x y. allowed_number d (x -ℤ y))
  effect_allowed (Lt d a b) = allowed_arithmetic _ _ _ (λ x y. allowed_natural d _)
  effect_allowed (Lea d a) =
      allowed_capability _ _ (λ c found. allowed_integer _ _ (λ z. allowed_check _ _ _ tt (λ can. allowed_address _ _ (λ n.
      puts (made_narrowed d c _ found (narrowed_cursor c n))))))
  effect_allowed (Restrict d a) =
      allowed_capability _ _ (λ c found. allowed_integer _ _ (λ z. allowed_pair _ _ (λ p l. allowed_check _ _ _ tt (λ lower.
      puts (made_narrowed d c _ found (narrowed_rights c p l lower))))))
  effect_allowed (Subseg d a b) =
      allowed_capability _ _ (λ c found. allowed_integer _ _ (λ x. allowed_integer _ _ (λ y. allowed_check _ _ _ tt (λ can.
      allowed_address _ _ (λ base. allowed_address _ _ (λ end. allowed_check _ _ _ tt (λ lower.
      puts (made_narrowed d c _ found (narrowed_bounds c base end lower)))))))))
  effect_allowed (IsPtr d a) = allowed_testing d (value r a)
  effect_allowed (GetP d a) = allowed_capability _ _ (λ c found. allowed_natural d _)
  effect_allowed (GetL d a) = allowed_capability _ _ (λ c found. allowed_natural d _)
  effect_allowed (GetB d a) = allowed_capability _ _ (λ c found. allowed_natural d _)
  effect_allowed (GetE d a) = allowed_capability _ _ (λ c found. allowed_natural d _)
  effect_allowed (GetA d a) = allowed_capability _ _ (λ c found. allowed_natural d _)
  effect_allowed (Quot d a b) = allowed_arithmetic _ _ _ (λ x y. allowed_check _ _ _ tt (λ t. allowed_number d (quotient x y)))

  obeyed_allowed : (o : Option Instruction) → Allowed r (obeyed r o)
  unfolding obeyed
  obeyed_allowed None = stops_by tt
  obeyed_allowed (Some i) = effect_allowed i

  fetched_allowed : (cells : List Word) (w : Word) → Allowed r (fetched r cells w)
  fetched_allowed cells (integer z) = stops_by tt
  fetched_allowed cells (capability pc) = allowed_check _ _ _ tt (λ t. allowed_check _ _ _ refl (λ u. obeyed_allowed (instruction_in (at cells pc.cursor))))

pub request_allowed : (m : Machine) → Allowed m.registers (request m)
unfolding request
request_allowed m = fetched_allowed m.registers m.cells (at m.registers 0)
