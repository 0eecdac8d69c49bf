-- The law of this crate, in the order of document 01: what each figure is. Each definition stands under the sentence that it states, of document 01 or, where it
-- says so, of document 02. "The papers", here and in every other crate, are document 01 with what the requests of document 02 have changed of it: so far Q-1, Q-4
-- and Q-5. (Q-2 and Q-3 change nothing of it.) Where Q-5 gives a sentence of document 01 another number, since d is in hundredths of a cm, the words stand in quotes
-- and the number beside them.
--
-- HOW TO READ specs/, here and in every other crate. A file says what things are; a line that begins with two dashes is a remark. The signs:
--
-- Definitions
--     f : ℕ → ℕ → ℤ           f makes a whole number of either sign (ℤ) of two that are 0 or more (ℕ). The lines below it say which
--     f x y                   f at x and y. Of `◌div◌` the two stand where the circles are: x div m
--     f zero = ..             f by cases: what it is at 0,
--     f (suc n) = ..          and what it is at n + 1, in words of n. So too by the cases of anything else
--     λ x. e                  the function that makes e of x
--     let x = e in r          r, with e for x. `where`: what stands below is used in what stands above
--     {A : Type 0} → ..       of any kind A of thing. It is not written where f is used
-- Whole numbers
--     x + y, x * y, x ^ y     sum, product, and x to the power y. x / y and x % y: the quotient without its remainder, and the remainder
--     x - y                   is cut off at 0 where y is above x. Wherever a definition has it, a proof stands beside it that nothing is cut off
--     pos n, negsuc n         the numbers of ℤ: n itself, and −(n + 1). neg_ℤ x is −x; nat_abs x is x without its sign
--     +ℤ -ℤ *ℤ                sum, difference and product in ℤ
--     x div m                 the quotient in ℤ, "toward the lesser whole number": −1 div 10 = −1, −10 div 10 = −1, −11 div 10 = −2, and 19 div 10 = 1
-- Tests, which come out true or false
--     leb x y, ltb x y, eqb x y, le_z x y     x ≤ y, x < y and x = y; x ≤ y in ℤ
--     cond test a b           a where the test is true, and b where it is false. test && other: whether both are true
-- Things of several parts
--     record { a = x; b = y } what has the parts a and b, and these are x and y; t.a is the part a of t
--     (x, y)                  a pair, of the kind X × Y; p.0 and p.1 are its parts. Of a thing of one part, as `Milligrams`, m.0 is that part
--     record R : Type 0 where what follows are the parts of an R, each with its kind
--     data D : Type 0 where   a D is one of the cases that follow, each with what it holds
-- Lists
--     [], x ∷ l, l ++ m       the empty list; x and then l; l and then m
--     length l, map f l       how many are in it; f of each
--     get_or l i z            what stands in l at i, counted from 0, and z past the end
--     take k l, drop k l      the first k of l, and the rest
--     set l i x, replicate n x        l with x at i; n times x
--     list_any test l         whether the test holds of one of l
-- Answers of a routine: Ok x, that it is x; Err why, that it declines, and why
-- Options
--     None, Some x            nothing, and x. is_some o: whether there is something
--     unwrap_or o z           what there is, and z where there is nothing. option_map f o: f of it. option_to_list o: the list of it alone, or the empty list
-- Reports (Report.antt): gives x, a figure; refused n, document 01's number of a refusal. A list of checks is read from the top
--     unless test n r         the refusal n unless the test holds; where it holds, r
--     when test n r           the refusal n when the test holds; where it fails, r
--     r then λ x. q           q, with x the figure that r gives; where r is a refusal, that refusal
--     report number answer    what an answer reports: a figure is given, and what it declines with has a number
--     given o n               what there is, as a figure, and the refusal n where there is nothing
-- Statements, which hold or do not
--     x ≡ y, x ≤ y, x < y     x and y are the same; x is at most y; x is less than y. x ≤ℤ y: the same in ℤ
--     f : ℕ → Type 0          f makes a statement of a number
--     P × Q                   P and Q
--     P → Q                   if P, then Q
--     (g : X) → P → Q         for every g of the kind X: if P, then Q
--     Unit, ⊥                 what always holds, and what never does. So P → ⊥ says that P does not hold
--     AllOf l                 each statement in the list l
--     record R .. where       a statement of several, which are all to hold. data D .. where: one that holds where one of the cases does
-- `use` names what a file takes from others; what it takes from `declared` are the types of the code, as Rust has them: `declared.units.Grams` is the type
-- Grams of src/units.rt. `pub`, `abbrev`, `unfoldable`, `unfolding` and `infixl` matter only to proofs and to the order of signs.
-- A remark's `Law.Tree: parts_bounded` is a theorem of proofs/Law/Tree.antt. What is proved there need not be believed.
-- What a routine of src/ promises: `ensures { P }` is the statement P of what it answers, `result`. Of bytes b that are lent to it to be read, `b.now` are those; of
-- bytes that it may change, `b.old` are those when it is called and `b.new` those when it answers. `requires { P }` is what a routine asks of its callers.
pub mod Whole
pub mod Units
pub mod Report
-- the limits of a line
pub mod Limits
-- steps 1 to 7, and the project
pub mod Tariff
pub mod Mean
pub mod Trees
pub mod Ends
pub mod Stem
pub mod Crown
-- document 02, Q-3: the square root, which the root takes
pub mod SquareRoot
pub mod Root
pub mod Tree
-- document 02, Q-1: small trees
pub mod SmallTrees
pub mod Project
-- what routines ask of each other, and how great a figure can be
pub mod Bounds
-- the exact value
pub mod Fraction
pub mod Exact
-- document 01's marked lines
pub mod Marked
