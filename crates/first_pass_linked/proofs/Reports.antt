-- The report of the links of a text, from its lines.
use Rattle.std.proofs.Common.{◌≡◌, ℕ, List, [], ◌++◌, Option, Result, Ok, Err, OnOk, IfErr, inl, inr, refl, sym, subst, flat_map}
use Rattle.std.proofs.KnownBytes.{Appends-nil}
use Rattle.first_pass_items.specs.declared.item.Item.{Item}
use Rattle.first_pass_items.specs.declared.option_set.Options.{Options}
use Rattle.first_pass_grammar.specs.Derivation.{Derives}
use Rattle.first_pass_grammar.specs.Leaves.{document}
use Rattle.first_pass_host.specs.declared.fault.RunFault.{RunFault}
use Rattle.first_pass_host.specs.declared.fault.RunFault.TheVariants.{OutOfMemory, NotUtf8, BadOptions, ReadFailed, WriteFailed}
use Rattle.first_pass_host.specs.Runs.{LeavesReport, WritesOutput}
use Rattle.first_pass_host.specs.Streams.{WritesText, stream_between}
use Rattle.first_pass_names.specs.TableEntries.{entries, names_of, tables_of}
use Rattle.first_pass_names.specs.declared.items.Allocations.{Allocations}
use Rattle.first_pass_linked.specs.Forms.{LineForms}
use Rattle.first_pass_linked.specs.LinkLines.{AreLinkLines, AreNodeLines, source_in}
use Rattle.first_pass_linked.proofs.BlockLines.{lines_found}

-- a fault before the first write
pub nothing_written : (text : List ℕ) (known : Option (List ℕ)) (result : Result (Unit {0}) RunFault) → result ≡ Err OutOfMemory
    → WritesText text (stream_between known known) result
nothing_written text known result is = subst (WritesText text (stream_between known known)) (sym is) record {
  ok = tt;
  front = record { written = []; left = text; split = refl; appended = Appends-nil known };
  fault = inr refl;
}

module _ (forms : LineForms) (text : List ℕ) (options : Options) (allocs : Allocations) (nodes : List (ℕ × Item)) where
  -- the lines of the nodes
  abbrev pub node_lines_of : List ℕ
  node_lines_of = (lines_found (source_in forms text options allocs) nodes).0

  pub lines_are_there : AreNodeLines (source_in forms text options allocs) nodes node_lines_of
  lines_are_there = (lines_found (source_in forms text options allocs) nodes).1

  -- the whole output
  abbrev pub output_of : List ℕ
  output_of = flat_map forms.definition (tables_of allocs).links ++ node_lines_of

  module _ (derived : Derives (document text options (names_of allocs)) nodes (tables_of allocs)) where
    says : AreLinkLines forms options text output_of
    says = record {
      names = names_of allocs;
      nodes = nodes;
      entries = entries allocs;
      derived = derived;
      found = node_lines_of;
      are_found = lines_are_there;
      written = refl;
    }

    pub whole_written : (old new : Option (List ℕ)) (result : Result (Unit {0}) RunFault) → WritesText output_of (stream_between old new) result
        → OnOk result (WritesOutput (AreLinkLines forms) options text (stream_between old new))
    whole_written old new (Ok x) w = record { whole = output_of; says = says; appended = w.ok }
    whole_written old new (Err fault) w = tt

    pub front_written : (old new : Option (List ℕ)) (result : Result (Unit {0}) RunFault) → WritesText output_of (stream_between old new) result
        → IfErr result (λ fault. LeavesReport (AreLinkLines forms) fault options text (stream_between old new))
    front_written old new (Ok x) w = tt
    front_written old new (Err OutOfMemory) w = inr record { whole = output_of; says = says; appended = w.front }
    front_written old new (Err WriteFailed) w = record { whole = output_of; says = says; appended = w.front }
    front_written old new (Err NotUtf8) w = elim w.fault [ inl e ↦ cc | inr e ↦ cc ]
    front_written old new (Err BadOptions) w = elim w.fault [ inl e ↦ cc | inr e ↦ cc ]
    front_written old new (Err ReadFailed) w = elim w.fault [ inl e ↦ cc | inr e ↦ cc ]
