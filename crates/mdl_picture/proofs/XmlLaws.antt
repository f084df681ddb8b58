-- What is well-formed.
use Rattle.std.proofs.Common.{◌≡◌, ◌∙◌, ℕ, zero, suc, ◌+◌, ◌/◌, ◌%◌, ◌<◌, ◌≤◌, Bool, true, false, cond, ◌&&◌, eqb, leb, ltb, List, [], ◌∷◌, ◌++◌, codes, map, ap, sym, subst, refl, append_assoc, arith}
use Rattle.std.specs.Fmt.{decimal, digit_glyph, digits, digits_onto}
use Rattle.std.specs.List.{list_all, flat_map}
use Rattle.std.proofs.lemmas.Bool.{eqb-true}
use Rattle.std.proofs.lemmas.Bool.Decides.{nat_tests}
use Rattle.std.proofs.lemmas.List.Folds.{list_all-append}
use Rattle.mdl_picture.specs.declared.svg.Attribute.{Attribute}
use Rattle.mdl_picture.specs.declared.svg.Attribute.TheVariants.{Class, Height, MarkerHeight, MarkerWidth, Namespace, RefX, RefY, ViewBox, Width, X, X1, X2, Y, Y1, Y2}
use Rattle.mdl_picture.specs.declared.svg.Tag.{Tag}
use Rattle.mdl_picture.specs.declared.svg.Tag.TheVariants.{Svg}
use Rattle.mdl_picture.specs.declared.kind.Kind.{Kind}
use Rattle.mdl_picture.specs.declared.kind.Kind.TheVariants.{Ground}
use Rattle.mdl_picture.specs.Kinds.{kind_name}
use Rattle.mdl_picture.specs.Laws.{shown}
use Rattle.mdl_picture.specs.Svg.{Node, Shape, alone, attribute_name, attribute_text, attribute_value, end_tag, escaped, escaped_byte, group, is_printed, node_text, shape_text, start_tag, tag_name}
use Rattle.mdl_picture.specs.Xml.{AreAttributes, IsContent, IsReference, IsTag, IsText, amp, are_distinct, both, byte, element, empty, end_of, gt, is_name, is_text_byte, is_value_byte, lt, none, one_more, quot, reference, start_of, text}

-- a byte is written as a reference, or as it is
by_reference : (t : Bool) (b k : ℕ) (name other written said : List ℕ) → (t ≡ true → shown b ≡ k) → IsReference name k
    → (t ≡ false → IsText (other ++ written) (shown b ∷ said)) → IsText written said → IsText (cond t name other ++ written) (shown b ∷ said)
by_reference true b k name other written said is here there others =
    subst (λ s. IsText (name ++ written) (s ∷ said)) (sym (is refl)) (reference name k written said here others)
by_reference false b k name other written said is here there others = there refl

by_itself : (t : Bool) (b : ℕ) (written said : List ℕ) → (t ≡ true → is_text_byte b ≡ true) → IsText written said
    → IsText (cond t (b ∷ []) (codes "?") ++ written) (cond t b 63 ∷ said)
by_itself true b written said is others = byte b written said (is refl) others
by_itself false b written said is others = byte 63 written said refl others

no_markup : (b : ℕ) → eqb b 38 ≡ false → eqb b 60 ≡ false → eqb b 62 ≡ false → is_printed b ≡ true → is_text_byte b ≡ true
no_markup b no_amp no_lt no_gt printed = rw (printed, no_amp, no_lt, no_gt) refl

one_byte : (b : ℕ) (written said : List ℕ) → IsText written said → IsText (escaped_byte b ++ written) (shown b ∷ said)
one_byte b written said others =
    by_reference (eqb b 38) b 38 (codes "&amp;") _ written said (λ is. ap shown (eqb-true b 38 is)) amp (λ no_amp.
    by_reference (eqb b 60) b 60 (codes "&lt;") _ written said (λ is. ap shown (eqb-true b 60 is)) lt (λ no_lt.
    by_reference (eqb b 62) b 62 (codes "&gt;") _ written said (λ is. ap shown (eqb-true b 62 is)) gt (λ no_gt.
    by_reference (eqb b 34) b 34 (codes "&quot;") _ written said (λ is. ap shown (eqb-true b 34 is)) quot (λ no_quot.
    by_itself (is_printed b) b written said (no_markup b no_amp no_lt no_gt) others) others) others) others) others

pub texts_are_kept : (bytes : List ℕ) → IsText (escaped bytes) (map shown bytes)
texts_are_kept [] = empty
texts_are_kept (b ∷ bytes) = one_byte b (escaped bytes) (map shown bytes) (texts_are_kept bytes)

-- a number's digits may be the value of an attribute
is_value : (b : ℕ) → 48 ≤ b → b ≤ 57 → is_value_byte b ≡ true
is_value b low high =
    let printed : leb 32 b ≡ true = grind (arith, nat_tests) in
    let ascii : leb b 126 ≡ true = grind (arith, nat_tests) in
    let no_quot : eqb b 34 ≡ false = grind (arith, nat_tests) in
    let no_amp : eqb b 38 ≡ false = grind (arith, nat_tests) in
    let no_lt : eqb b 60 ≡ false = grind (arith, nat_tests) in
    rw (printed, ascii, no_quot, no_amp, no_lt) refl

glyph_is_value : (d : ℕ) → d < 10 → is_value_byte (digit_glyph false d) ≡ true
glyph_is_value d low =
    let digit : ltb d 10 ≡ true = grind (arith, nat_tests) in
    let is : is_value_byte (48 + d) ≡ true = is_value (48 + d) (omega arith) (omega arith) in
    rw digit is

one_more_value : (b : ℕ) (bytes : List ℕ) → is_value_byte b ≡ true → list_all is_value_byte bytes ≡ true → list_all is_value_byte (b ∷ bytes) ≡ true
one_more_value b bytes this others = rw this others

either_values : (t : Bool) (one other : List ℕ) → list_all is_value_byte one ≡ true → list_all is_value_byte other ≡ true
    → list_all is_value_byte (cond t one other) ≡ true
either_values true one other this that = this
either_values false one other this that = that

digits_are_values : (k n : ℕ) (behind : List ℕ) → list_all is_value_byte behind ≡ true → list_all is_value_byte (digits_onto k 10 false n behind) ≡ true
digits_are_values zero n behind others = others
digits_are_values (suc k) n behind others =
    let low : n % 10 < 10 = omega arith in
    let more : list_all is_value_byte (digit_glyph false (n % 10) ∷ behind) ≡ true =
    one_more_value (digit_glyph false (n % 10)) behind (glyph_is_value (n % 10) low) others in
    either_values (eqb (n / 10) 0) (digit_glyph false (n % 10) ∷ behind) (digits_onto k 10 false (n / 10) (digit_glyph false (n % 10) ∷ behind)) more
    (digits_are_values k (n / 10) (digit_glyph false (n % 10) ∷ behind) more)

number_is_value : (n : ℕ) → list_all is_value_byte (decimal n) ≡ true
unfolding digits
number_is_value n = digits_are_values 64 n [] refl

both_values : (one other : List ℕ) → list_all is_value_byte one ≡ true → list_all is_value_byte other ≡ true → list_all is_value_byte (one ++ other) ≡ true
both_values one other this that = list_all-append is_value_byte one other ∙ ap (λ b. b && list_all is_value_byte other) this ∙ that

-- each attribute has a name and a value
kind_is_value : (kind : Kind) → list_all is_value_byte (kind_name kind) ≡ true
kind_is_value Ground = refl
kind_is_value kind = refl

has_name : (attribute : Attribute) → is_name (attribute_name attribute) ≡ true
has_name Namespace = refl
has_name attribute = refl

has_value : (attribute : Attribute) → list_all is_value_byte (attribute_value attribute) ≡ true
has_value (ViewBox width height) =
    both_values (codes "0 0 " ++ decimal width ++ codes " ") (decimal height)
    (both_values (codes "0 0 " ++ decimal width) (codes " ") (both_values (codes "0 0 ") (decimal width) refl (number_is_value width)) refl)
    (number_is_value height)
has_value (Class kind) = kind_is_value kind
has_value (MarkerWidth n) = number_is_value n
has_value (MarkerHeight n) = number_is_value n
has_value (RefX n) = number_is_value n
has_value (RefY n) = number_is_value n
has_value (X n) = number_is_value n
has_value (Y n) = number_is_value n
has_value (Width n) = number_is_value n
has_value (Height n) = number_is_value n
has_value (X1 n) = number_is_value n
has_value (Y1 n) = number_is_value n
has_value (X2 n) = number_is_value n
has_value (Y2 n) = number_is_value n
has_value attribute = refl

are_attributes : (attributes : List Attribute) → AreAttributes (map attribute_name attributes) (flat_map attribute_text attributes)
are_attributes [] = none
are_attributes (attribute ∷ attributes) =
    one_more (attribute_name attribute) (attribute_value attribute) (map attribute_name attributes) (flat_map attribute_text attributes)
    (has_name attribute) (has_value attribute) (are_attributes attributes)

-- so are tags whose attributes are distinct
AreDistinct : List Attribute → Type 0
AreDistinct attributes = are_distinct (map attribute_name attributes) ≡ true

tag_has_name : (tag : Tag) → is_name (tag_name tag) ≡ true
tag_has_name Svg = refl
tag_has_name tag = refl

pub is_tag : (tag : Tag) (attributes : List Attribute) → are_distinct (map attribute_name attributes) ≡ true
    → IsTag (tag_name tag) (flat_map attribute_text attributes)
is_tag tag attributes distinct =
    record {
      names = map attribute_name attributes;
      has_name = tag_has_name tag;
      has_attributes = are_attributes attributes;
      has_distinct = distinct;
    }

-- an element and its line feed
pub element_line : (tag : Tag) (attributes : List Attribute) (content : List ℕ)
    → start_of (tag_name tag) (flat_map attribute_text attributes) ++ content ++ end_of (tag_name tag) ++ codes "\n"
    ≡ start_tag tag attributes ++ content ++ end_tag tag
unfolding start_tag end_tag
element_line tag attributes content =
    append_assoc (start_of (tag_name tag) (flat_map attribute_text attributes) ++ content) (end_of (tag_name tag)) (codes "\n")
    ∙ ap (λ end. start_of (tag_name tag) (flat_map attribute_text attributes) ++ content ++ end)
    (append_assoc (codes "</" ++ tag_name tag) (codes ">") (codes "\n"))

line_feed : IsContent (codes "\n")
line_feed = text (codes "\n") (codes "\n") (byte 10 [] [] refl empty)

element_content : (tag : Tag) (attributes : List Attribute) (content : List ℕ) → are_distinct (map attribute_name attributes) ≡ true → IsContent content
    → IsContent (start_tag tag attributes ++ content ++ end_tag tag)
element_content tag attributes content distinct within =
    subst IsContent (element_line tag attributes content)
    (both (start_of (tag_name tag) (flat_map attribute_text attributes) ++ content ++ end_of (tag_name tag)) (codes "\n")
    (element (tag_name tag) (flat_map attribute_text attributes) content (is_tag tag attributes distinct) within) line_feed)

-- a shape whose attributes are distinct
shape_content : (shape : Shape) → are_distinct (map attribute_name shape.attributes) ≡ true → IsContent (shape_text shape)
unfolding shape_text
shape_content shape distinct =
    element_content shape.tag shape.attributes (escaped shape.text) distinct (text (escaped shape.text) (map shown shape.text) (texts_are_kept shape.text))

-- shapes of which that is so
abbrev pub AreFineShapes : List Shape → Type 0
AreFineShapes [] = Unit {0}
AreFineShapes (shape ∷ shapes) = (are_distinct (map attribute_name shape.attributes) ≡ true) × AreFineShapes shapes

pub both_fine_shapes : (one other : List Shape) → AreFineShapes one → AreFineShapes other → AreFineShapes (one ++ other)
both_fine_shapes [] other these those = those
both_fine_shapes (shape ∷ one) other these those = (these.0, both_fine_shapes one other these.1 those)

nothing : IsContent []
nothing = text [] [] empty

shapes_content : (shapes : List Shape) → AreFineShapes shapes → IsContent (flat_map shape_text shapes)
shapes_content [] fine = nothing
shapes_content (shape ∷ shapes) fine =
    both (shape_text shape) (flat_map shape_text shapes) (shape_content shape fine.0) (shapes_content shapes fine.1)

-- and nodes
abbrev pub IsFine : Node → Type 0
IsFine (alone shape) = are_distinct (map attribute_name shape.attributes) ≡ true
IsFine (group tag attributes shapes) = (are_distinct (map attribute_name attributes) ≡ true) × AreFineShapes shapes

node_content : (node : Node) → IsFine node → IsContent (node_text node)
node_content (alone shape) fine = shape_content shape fine
node_content (group tag attributes shapes) fine =
    element_content tag attributes (flat_map shape_text shapes) fine.0 (shapes_content shapes fine.1)

abbrev pub AreFine : List Node → Type 0
AreFine [] = Unit {0}
AreFine (node ∷ nodes) = IsFine node × AreFine nodes

pub nodes_content : (nodes : List Node) → AreFine nodes → IsContent (flat_map node_text nodes)
nodes_content [] fine = nothing
nodes_content (node ∷ nodes) fine = both (node_text node) (flat_map node_text nodes) (node_content node fine.0) (nodes_content nodes fine.1)

pub both_fine : (one other : List Node) → AreFine one → AreFine other → AreFine (one ++ other)
both_fine [] other these those = those
both_fine (node ∷ one) other these those = (these.0, both_fine one other these.1 those)

pub each_fine : {X : Type 0} (f : X → Node) (xs : List X) → ((x : X) → IsFine (f x)) → AreFine (map f xs)
each_fine f [] fine = tt
each_fine f (x ∷ xs) fine = (fine x, each_fine f xs fine)

pub all_fine : {X : Type 0} (f : X → List Node) (xs : List X) → ((x : X) → AreFine (f x)) → AreFine (flat_map f xs)
all_fine f [] fine = tt
all_fine f (x ∷ xs) fine = both_fine (f x) (flat_map f xs) (fine x) (all_fine f xs fine)
