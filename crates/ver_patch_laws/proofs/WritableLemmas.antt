-- The nets of every netlist may be written.
use Rattle.std.proofs.Common.{◌≡◌, ℕ, ◌<◌, ◌≤◌, ◌^◌, true, false, List, [], ◌∷◌, length, Option, Some, None, refl, sym, ap, ◌∙◌, subst, arith}
use Rattle.std.specs.Prelude.{IfSome, option_map, unwrap_or}
use Rattle.std.specs.List.{list_all}
use Rattle.std.proofs.lemmas.Bool.{and_parts}
use Rattle.std.proofs.lemmas.List.{append-nil}
use Rattle.ver_text.specs.Bytes.{is_printable}
use Rattle.ver_text.specs.Kinds.{word_kind}
use Rattle.ver_text.specs.Names.{is_escaped, is_identifier as is_identifier_kind, is_simple, is_word, name_of}
use Rattle.ver_syntax.specs.declared.row.Row.{Row}
use Rattle.ver_syntax.specs.Rows.{rows_of}
use Rattle.ver_syntax.specs.Syntax.{IsModule}
use Rattle.ver_module.specs.Ranges.{bits_of}
use Rattle.ver_items.specs.Declarations.{declared_of, range_in}
use Rattle.ver_items.specs.Sections.{bytes_at, is_identifier, is_net_place, name_at}
use Rattle.ver_module.specs.Netlists.{Net, Netlist}
use Rattle.ver_file.specs.Nets.{net, nets_at, nets_of, tokens_of_nets}
use Rattle.ver_file.specs.Netlists.{netlist_of}
use Rattle.ver_net.specs.Texts.{net_text, text_of}
use Rattle.ver_patch_text_laws.specs.Texts.{IsNetText}
use Rattle.ver_patch_text_laws.proofs.SectionLemmas.{get_map}
use Rattle.ver_patch_laws.specs.Links.{NetName, name_of_net}
use Rattle.ver_patch_laws.proofs.RelinkedLemmas.{In}
use Rattle.ver_patch_laws.specs.Consistent.{Writes}
use Rattle.ver_patch_laws.specs.Laws.{NetsMayBeWritten, WiresMayBeWritten}
use Rattle.ver_patch_laws.specs.Names.{IsNumbered}
use Rattle.ver_patch_laws.proofs.CoverLemmas.{first_row}
use Rattle.ver_patch_laws.proofs.IdentifierLemmas.{IsOwnName, identifier_name}
use Rattle.ver_patch_laws.proofs.IndexLemmas.{bit_few}
use Rattle.ver_patch_laws.proofs.SetLemmas.{get_in, in_flattened, in_mapped}

-- ---- names

word_some : (name : List ℕ) → is_word name ≡ true → 0 < length name
word_some [] e = absurd (cc)
word_some (b ∷ bs) e = omega arith

simple_some : (name : List ℕ) → is_simple name ≡ true → 0 < length name
simple_some name e = word_some name (and_parts (is_word name) (is_identifier_kind (word_kind name)) e).0

-- the name that an identifier gives can be written as the identifier does
record HasName (bytes : List ℕ) : Type 0 where
  plain : is_escaped bytes ≡ false → is_simple (name_of bytes) ≡ true
  some : 0 < length (name_of bytes)
  printable : is_escaped bytes ≡ true → list_all is_printable (name_of bytes) ≡ true

has_name : (bytes : List ℕ) → IsOwnName bytes → HasName bytes
has_name bytes (IsOwnName.plain off simple) =
    let name : name_of bytes ≡ bytes = rw off refl in
    record {
      plain = λ e. ap is_simple name ∙ simple;
      some = subst (λ (n : List ℕ). 0 < length n) (sym name) (simple_some bytes simple);
      printable = λ e. absurd (cc);
    }
has_name bytes (IsOwnName.escaped name is some printed) =
    subst HasName (sym is) (record { plain = λ e. absurd (cc); some = some; printable = λ e. printed })

few_bits : (bit : Option ℕ) → IfSome bit (λ k. k ≤ 2 ^ 20) → IfSome bit (λ k. k < 2 ^ 32)
few_bits None h = tt
few_bits (Some k) h = omega (arith, h)

-- ---- nets

-- a net with the text of its own
record IsOwnText (n : Net) : Type 0 where
  text : IsNetText (text_of n)
  same : name_of_net text.net ≡ name_of_net n

net_of_row : (text : List ℕ) → IsModule text → (r : Row) → In r (tokens_of_nets text) → (bit : Option ℕ) → In bit (bits_of (range_in (declared_of text) (name_at text r)))
    → IsOwnText (net text (declared_of text) r bit)
net_of_row text h r i bit has =
    let (among, named) = first_row text [] (rows_of text) r i in
    let own = has_name (bytes_at text r) (identifier_name text r among (and_parts (is_identifier r) (is_net_place r.place) named).0) in
    let few = bit_few text h (name_at text r) bit has in
    record {
      text = record {
        net = net text (declared_of text) r bit;
        writable = record { plain = own.plain; some = own.some; printable = own.printable; few = few_bits bit few };
        few = few;
        is = refl;
      };
      same = refl;
    }

own_text : (text : List ℕ) → IsModule text → (n : Net) → In n (nets_of text) → IsOwnText n
own_text text h n i =
    let (r, j, k) = in_flattened (nets_at text (declared_of text)) (tokens_of_nets text) n i in
    let (bit, l, e) = in_mapped (net text (declared_of text) r) (bits_of (range_in (declared_of text) (name_at text r))) n k in
    subst IsOwnText (sym e) (net_of_row text h r j bit l)

own_written : (text : List ℕ) → IsModule text → (id : ℕ) (name : NetName) → IsNumbered (netlist_of text) id name → Writes (net_text (netlist_of text) id) name
own_written text h id name e =
    let (n, f, g) = get_map name_of_net (nets_of text) id name e in
    let own = own_text text h n (get_in (nets_of text) id n f) in
    subst (λ t. Writes t name) (sym (ap (λ (o : Option Net). unwrap_or (option_map text_of o) []) f)) (record { net = own.text; is = own.same ∙ sym g })

pub nets_may_be_written : NetsMayBeWritten
nets_may_be_written text netlist id name d =
    subst (λ (n : Netlist). IsNumbered n id name → Writes (net_text n id) name) (sym d.is) (own_written text d.grammar id name)

pub wires_may_be_written : WiresMayBeWritten
wires_may_be_written wire e = record {
  net = record {
    net = record { name = wire; base = wire; bit = None; escaped = false; port = None; supply = false };
    writable = record { plain = λ f. e; some = simple_some wire e; printable = λ f. absurd (cc); few = tt };
    few = tt;
    is = sym (append-nil wire);
  };
  is = refl;
}
