use Rattle.fp_server.proofs.serving.serve_store.Given as goal

-- the name of the committer that was made
abbrev pub ghosts-serve_named : goal.ghosts-serve_named
ghosts-serve_named g a = record {
  store = a.half.store.store;
  desk_lists = a.desk.half.own;
  store_lists = a.half.half.own;
  beginning = a.began.name;
  accepted = a.accepted.name;
}
