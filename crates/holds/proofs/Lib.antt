pub mod NodesRekey
