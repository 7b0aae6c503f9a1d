pub mod ListedObjects
