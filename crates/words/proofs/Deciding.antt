-- The test of the permissions' order decides the order as the rule states it.
use Rattle.std.proofs.Common.{Bool, true, false, ◌&&◌, ◌||◌, T, ◌≢◌, refl, subst}
use Rattle.words.specs.declared.permission.Permission.{Permission}
use Rattle.words.specs.declared.permission.Permission.TheVariants.{O, RO, RW, RWL, RX, E, RWX, RWLX}
use Rattle.words.specs.Permissions.{reads, writes, executes, stores_local, is_enter}
use Rattle.words.specs.Orders.{Exactly, HasLetters, PermissionBelow, nothing, enter_itself, enter_code, letters, implies, has_letters, below_permission}

both : (a b : Bool) → T a → T b → T (a && b)
both true b p q = q
both false b p q = p

left : (a b : Bool) → T (a && b) → T a
left true b p = tt
left false b p = p

right : (a b : Bool) → T (a && b) → T b
right true b p = p
right false b p = elim p [ ]

implied : (a b : Bool) → T (implies a b) → T a → T b
implied true b p q = p
implied false b p q = elim q [ ]

implying : (a b : Bool) → (T a → T b) → T (implies a b)
implying true b f = f tt
implying false b f = tt

-- The letters as a test and as a statement.
has : (p q : Permission) → T (has_letters p q) → HasLetters p q
has p q t =
    let r : Bool = implies (reads p) (reads q) in
    let w : Bool = implies (writes p) (writes q) in
    let l : Bool = implies (stores_local p) (stores_local q) in
    let x : Bool = implies (executes p) (executes q) in
    let rwl = left (r && w && l) x t in
    let rw = left (r && w) l rwl in
    record {
      r = implied (reads p) (reads q) (left r w rw);
      w = implied (writes p) (writes q) (right r w rw);
      l = implied (stores_local p) (stores_local q) (right (r && w) l rwl);
      x = implied (executes p) (executes q) (right (r && w && l) x t);
    }

tested : (p q : Permission) → HasLetters p q → T (has_letters p q)
tested p q h =
    let r : Bool = implies (reads p) (reads q) in
    let w : Bool = implies (writes p) (writes q) in
    let l : Bool = implies (stores_local p) (stores_local q) in
    let x : Bool = implies (executes p) (executes q) in
    both (r && w && l) x
    (both (r && w) l (both r w (implying (reads p) (reads q) h.r) (implying (writes p) (writes q) h.w)) (implying (stores_local p) (stores_local q) h.l))
    (implying (executes p) (executes q) h.x)

entering : (q : Permission) → T (is_enter q || executes q) → PermissionBelow E q
entering O t = elim t [ ]
entering RO t = elim t [ ]
entering RW t = elim t [ ]
entering RWL t = elim t [ ]
entering RX t = enter_code tt
entering E t = enter_itself
entering RWX t = enter_code tt
entering RWLX t = enter_code tt

executing : (q : Permission) → T (executes q) → T (is_enter q || executes q)
executing O t = t
executing RO t = t
executing RW t = t
executing RWL t = t
executing RX t = t
executing E t = tt
executing RWX t = t
executing RWLX t = t

-- A permission that reads is neither O nor E.
reading : {p : Permission} (q : Permission) → T (reads p) → ¬ T (reads q) → p ≢ q
reading q t none e = none (subst (λ (x : Permission). T (reads x)) e t)

by_letters : (p q : Permission) → T (reads p) → T (has_letters p q) → PermissionBelow p q
by_letters p q t h = letters (reading O t (λ n. n)) (reading E t (λ n. n)) (has p q h)

sound : (p q : Permission) → T (below_permission p q) → PermissionBelow p q
sound O q t = nothing
sound RO q t = by_letters RO q tt t
sound RW q t = by_letters RW q tt t
sound RWL q t = by_letters RWL q tt t
sound RX q t = by_letters RX q tt t
sound E q t = entering q t
sound RWX q t = by_letters RWX q tt t
sound RWLX q t = by_letters RWLX q tt t

lettered : (p q : Permission) → p ≢ O → p ≢ E → T (has_letters p q) → T (below_permission p q)
lettered O q not_O not_E t = tt
lettered RO q not_O not_E t = t
lettered RW q not_O not_E t = t
lettered RWL q not_O not_E t = t
lettered RX q not_O not_E t = t
lettered E q not_O not_E t = absurd (not_E refl)
lettered RWX q not_O not_E t = t
lettered RWLX q not_O not_E t = t

complete : (p q : Permission) → PermissionBelow p q → T (below_permission p q)
complete p q nothing = tt
complete p q enter_itself = tt
complete p q (enter_code t) = executing q t
complete p q (letters not_O not_E h) = lettered p q not_O not_E (tested p q h)

pub decides : (p q : Permission) → Exactly (below_permission p q) (PermissionBelow p q)
decides p q = (sound p q, complete p q)
