mod Leaves
