-- What each instruction does, from the registers, with its checks in their order.
use Rattle.std.specs.Prelude.{ℕ, cond, not, ◌&&◌, List, ℤ, pos, ◌+ℤ◌, ◌-ℤ◌, int_lt}
use Rattle.words.specs.Permissions.{permission_code, reads, writes, stores_local, is_enter, enter}
use Rattle.words.specs.Localities.{locality_code}
use Rattle.words.specs.Word.{Cap, Word, integer, capability, at, covers, is_local, is_zero, with_cursor, with_rights, with_bounds}
use Rattle.words.specs.Orders.{below_permission, below_locality, inside, implies}
use Rattle.instructions.specs.declared.instruction.Operand.{Operand}
use Rattle.instructions.specs.declared.instruction.Operand.TheVariants.{Register, Constant}
use Rattle.instructions.specs.declared.instruction.Instruction.{Instruction}
use Rattle.instructions.specs.declared.instruction.Instruction.TheVariants.{Fail, Halt, Jmp, Jnz, Move, Load, Store, Plus, Minus, Lt, Lea, Restrict, Subseg, IsPtr, GetP, GetL, GetB, GetE, GetA, Quot}
use Rattle.model.specs.declared.fault.Fault.TheVariants.{NotPermitted, NotCovered, LocalNotStorable, OutOfRange, NotBelow, ZeroDivisor, OrderedFail}
use Rattle.model.specs.Machine.{Effect, put, read, write, pass, jump, halting, faulting}
use Rattle.model.specs.Numbers.{fits_word, quotient, one_if}
use Rattle.model.specs.Checks.{check, with_capability, with_integer, with_integers, with_address, with_pair}

-- The word that an operand names.
abbrev pub value : List Word → Operand → Word
value registers (Register n) = at registers n
value registers (Constant z) = integer z

-- An integer goes into the register d, if it is one of 32 bits (18).
abbrev pub put_integer : ℕ → ℤ → Effect
put_integer d z = check (fits_word z) OutOfRange (put d (integer z))

-- A small number goes into the register d: a code, an address, 0 or 1.
abbrev pub put_natural : ℕ → ℕ → Effect
put_natural d n = put d (integer (pos n))

-- A word as a jump puts it into the pc: an E is entered, with RX, its locality and bounds as they were.
abbrev pub entered : Word → Word
entered (integer z) = integer z
entered (capability c) = capability (with_rights c (enter c.permission) c.locality)

-- jnz: a jump to the target, unless the word is the integer 0.
abbrev pub jumping : Word → Word → Effect
jumping target w = cond (is_zero w) pass (jump (entered target))

-- load through the word w: a capability (13) that reads (14) and covers its cursor (15).
abbrev pub loading : ℕ → Word → Effect
loading d w =
    with_capability w (λ c.
    check (reads c.permission) NotPermitted (
    check (covers c c.cursor) NotCovered (read d c.cursor)))

-- store of w through the target: a capability (13) that writes (14) and covers its cursor (15); a Local w needs the permission to store it (17).
abbrev pub storing : Word → Word → Effect
storing target w =
    with_capability target (λ c.
    check (writes c.permission) NotPermitted (
    check (covers c c.cursor) NotCovered (
    check (implies (is_local w) (stores_local c.permission)) LocalNotStorable (
    write c.cursor w))))

-- plus and minus: both are integers (13), and the sum or difference is one of 32 bits (18).
abbrev pub adding : ℕ → Word → Word → Effect
adding d a b = with_integers a b (λ x y. put_integer d (x +ℤ y))

abbrev pub subtracting : ℕ → Word → Word → Effect
subtracting d a b = with_integers a b (λ x y. put_integer d (x -ℤ y))

-- lt: both are integers (13); 1 where the first is below the second, else 0.
abbrev pub comparing : ℕ → Word → Word → Effect
comparing d a b = with_integers a b (λ x y. put_natural d (one_if (int_lt x y)))

-- quot: both are integers (13), the divisor is not 0 (20), and the quotient is one of 32 bits (18).
abbrev pub dividing : ℕ → Word → Word → Effect
dividing d a b =
    with_integers a b (λ x y.
    check (not (is_zero (integer y))) ZeroDivisor (
    put_integer d (quotient x y)))

-- lea: the cursor of w moves by a. w is a capability and a an integer (13), w is not E (14), and the cursor stays within 0 to 65,536 (18).
abbrev pub shifting : ℕ → Word → Word → Effect
shifting d w a =
    with_capability w (λ c. with_integer a (λ z.
    check (not (is_enter c.permission)) NotPermitted (
    with_address (pos c.cursor +ℤ z) (λ n.
    put d (capability (with_cursor c n))))))

-- restrict: w gets the permission and locality that a names (23), which are both below its own (19).
abbrev pub restricting : ℕ → Word → Word → Effect
restricting d w a =
    with_capability w (λ c. with_integer a (λ z.
    with_pair z (λ p l.
    check (below_permission p c.permission && below_locality l c.locality) NotBelow (
    put d (capability (with_rights c p l))))))

-- subseg: w gets the base a and the end b. w is a capability, a and b are integers (13), w is not E (14), both lie within 0 to 65,536 (18), and the
-- new bounds inside the old (19).
abbrev pub narrowing : ℕ → Word → Word → Word → Effect
narrowing d w a b =
    with_capability w (λ c. with_integers a b (λ x y.
    check (not (is_enter c.permission)) NotPermitted (
    with_address x (λ base. with_address y (λ end.
    check (inside base end c.base c.end) NotBelow (
    put d (capability (with_bounds c base end))))))))

-- isptr: 1 for a capability, 0 for an integer.
abbrev pub testing : ℕ → Word → Effect
testing d (integer z) = put_natural d 0
testing d (capability c) = put_natural d 1

-- getp, getl, getb, gete and geta: a number that the capability w has (13).
abbrev pub inspecting : (Cap → ℕ) → ℕ → Word → Effect
inspecting part d w = with_capability w (λ c. put_natural d (part c))

-- The twenty instructions, from the registers r. D is d, the operands A and B are a and b.
unfoldable pub effect : List Word → Instruction → Effect
effect r Fail = faulting OrderedFail
effect r Halt = halting
effect r (Jmp d) = jump (entered (at r d))
effect r (Jnz d a) = jumping (at r d) (value r a)
effect r (Move d a) = put d (value r a)
effect r (Load d a) = loading d (at r a)
effect r (Store d a) = storing (at r d) (value r a)
effect r (Plus d a b) = adding d (value r a) (value r b)
effect r (Minus d a b) = subtracting d (value r a) (value r b)
effect r (Lt d a b) = comparing d (value r a) (value r b)
effect r (Lea d a) = shifting d (at r d) (value r a)
effect r (Restrict d a) = restricting d (at r d) (value r a)
effect r (Subseg d a b) = narrowing d (at r d) (value r a) (value r b)
effect r (IsPtr d a) = testing d (value r a)
effect r (GetP d a) = inspecting (λ c. permission_code c.permission) d (at r a)
effect r (GetL d a) = inspecting (λ c. locality_code c.locality) d (at r a)
effect r (GetB d a) = inspecting (λ c. c.base) d (at r a)
effect r (GetE d a) = inspecting (λ c. c.end) d (at r a)
effect r (GetA d a) = inspecting (λ c. c.cursor) d (at r a)
effect r (Quot d a b) = dividing d (value r a) (value r b)
